use Rattle.std.proofs.Common.{rules, ◌≡◌, ◌∙◌, ap, ap₂, sym, subst, inl, inr, arith, Option, Some, None, true, [], ◌∷◌, codes, map, string_bytes, slice_index, length}
use Rattle.std.specs.Prelude.{pos}
use Rattle.std.specs.Str.{bytes_eq}
use Rattle.std.proofs.lemmas.Result.{IfOk-weaker}
use Rattle.clap.specs.Texts.{items_of}
use Rattle.clap.specs.Facts.{least_values, unwrap_or_range}
use Rattle.clap.specs.Built.{IsPlainArg}
use Rattle.clap.specs.declared.builder.range.ValueRange.{ValueRange}
use Rattle.clap.specs.Faults.{fault_of, is_simple_and_free}
use Rattle.clap.specs.Kinds.{FailsBy}
use Rattle.clap.specs.Matches.{found_of}
use Rattle.clap.specs.Simple.{App, Shape, app_of, app_of_fields, is_simple, matches_of, new_app, new_rule, on_top, with_rule}
use Rattle.clap.specs.Walk.{Rule, Text, rule_of}
use Rattle.clap.specs.declared.builder.action.ArgAction.TheVariants.{Set}
use Rattle.clap.specs.declared.builder.arg.Arg.{Arg}
use Rattle.clap.specs.declared.builder.value_parser.ValueParser.{ValueParser}
use Rattle.clap.specs.declared.builder.value_parser.ValueParser.TheVariants as vp
use Rattle.boxpleat_batch.specs.Words.{BatchCommand, bare, most_batch_budget, most_workers, number_option}
use Rattle.boxpleat_batch.specs.Numbers.{HasNumber}
use Rattle.boxpleat_batch.proofs.Options.{IsOption, Reads, first_reads, second_reads}
use Rattle.boxpleat_batch.proofs.Parses.{fails_ok, fails_err}
use Rattle.boxpleat_batch.proofs.words.matched.Goals as goal
use Rattle.boxpleat_batch.proofs.words.matched.Goals.{After-try_get_matches_from}

abbrev S16 : ValueParser
S16 = vp.Signed (pos 1) (pos 16)

abbrev S2000 : ValueParser
S2000 = vp.Signed (pos 1) (pos 2000)

workers_parser : (c : After-try_get_matches_from) → c.value_parser-2.result.value_parser ≡ Some S16
workers_parser c =
    let given = c.value_parser-2.ensures.given in
    let made : c.range.result ≡ S16 = rw (c.value_parser.ensures, c.new-2.ensures.start, c.new-2.ensures.end) at c.range.ensures in
    given.1 ∙ ap Some (given.2 ∙ made)

budget_parser : (c : After-try_get_matches_from) → c.value_parser-4.result.value_parser ≡ Some S2000
budget_parser c =
    let given = c.value_parser-4.ensures.given in
    let made : c.range-2.result ≡ S2000 = rw (c.value_parser-3.ensures, c.new-4.ensures.start, c.new-4.ensures.end) at c.range-2.ensures in
    given.1 ∙ ap Some (given.2 ∙ made)

workers_rule : (c : After-try_get_matches_from) → rule_of c.default_value-workers.result ≡ number_option (codes "workers") most_workers (codes "4")
workers_rule c =
    let rule_w : rule_of c.default_value-workers.result ≡ record (rule_of c.value_parser-2.result) { defaults = codes "4" ∷ [] } = ap rule_of c.default_value-workers.ensures in
    let rule_v : rule_of c.value_parser-2.result ≡ record (rule_of c.action.result) { parser = c.value_parser-2.result.value_parser } = ap rule_of c.value_parser-2.ensures.others in
    let rule_a : rule_of c.action.result ≡ record (new_rule (codes "workers")) { long = Some (codes "workers"); action = Some Set } = search rules in
    let is = workers_parser c in
    rule_w ∙ ap (λ (r : Rule). record r { defaults = codes "4" ∷ [] }) (rule_v ∙ (λ i. record (rule_a i) { parser = is i }))

budget_rule : (c : After-try_get_matches_from) → rule_of c.default_value-budget.result ≡ number_option (codes "budget") most_batch_budget (codes "1000")
budget_rule c =
    let rule_w : rule_of c.default_value-budget.result ≡ record (rule_of c.value_parser-4.result) { defaults = codes "1000" ∷ [] } = ap rule_of c.default_value-budget.ensures in
    let rule_v : rule_of c.value_parser-4.result ≡ record (rule_of c.action-2.result) { parser = c.value_parser-4.result.value_parser } = ap rule_of c.value_parser-4.ensures.others in
    let rule_a : rule_of c.action-2.result ≡ record (new_rule (codes "budget")) { long = Some (codes "budget"); action = Some Set } = search rules in
    let is = budget_parser c in
    rule_w ∙ ap (λ (r : Rule). record r { defaults = codes "1000" ∷ [] }) (rule_v ∙ (λ i. record (rule_a i) { parser = is i }))

bare_is : (c : After-try_get_matches_from) → app_of c.disable_version_flag-bare.result ≡ on_top bare (new_app (codes "boxpleat_batch"))
bare_is c =
    let third : app_of c.disable_version_flag-bare.result ≡ on_top (λ (s : Shape). record s { disable_version_flag = true }) (app_of c.disable_help_flag.result) = ap app_of_fields c.disable_version_flag-bare.ensures in
    let second : app_of c.disable_help_flag.result ≡ on_top (λ (s : Shape). record s { disable_help_flag = true }) (app_of c.no_binary_name.result) = ap app_of_fields c.disable_help_flag.ensures in
    let first : app_of c.no_binary_name.result ≡ on_top (λ (s : Shape). record s { no_binary_name = true }) (app_of c.new-5.result) = ap app_of_fields c.no_binary_name.ensures in
    third ∙ ap (on_top (λ (s : Shape). record s { disable_version_flag = true })) (second ∙ ap (on_top (λ (s : Shape). record s { disable_help_flag = true }))
    (first ∙ ap (on_top (λ (s : Shape). record s { no_binary_name = true })) c.new-5.ensures.app))

command_is : (c : After-try_get_matches_from) → app_of c.in_ok-command.command ≡ BatchCommand
command_is c =
    c.in_ok-command.ensures.shape (search rules)
    ∙ ap₂ with_rule (c.in_ok-arg.ensures.shape (search rules) ∙ ap₂ with_rule (bare_is c) (workers_rule c)) (budget_rule c)

workers_id : (c : After-try_get_matches_from) → c.default_value-workers.result.id.now ≡ codes "workers"
workers_id c = search rules

budget_id : (c : After-try_get_matches_from) → c.default_value-budget.result.id.now ≡ codes "budget"
budget_id c = search rules

workers_option : (c : After-try_get_matches_from) → IsOption c.default_value-workers.result S16
workers_option c =
    let id = workers_id c in
    let none : c.default_value-workers.result.num_vals ≡ None = ap (λ (a : Arg). a.num_vals) c.default_value-workers.ensures ∙ (ap (λ (a : Arg). a.num_vals) c.value_parser-2.ensures.others ∙ (ap (λ (a : Arg). a.num_vals) c.action.ensures ∙ (ap (λ (a : Arg). a.num_vals) c.long.ensures ∙ c.new.ensures.values.1))) in
    let one : length (items_of c.default_value-workers.result.default_vals) ≡ 1 = ap (λ (a : Arg). length (items_of a.default_vals)) c.default_value-workers.ensures in
    let first : least_values c.default_value-workers.result ≡ 1 = ap (λ (o : Option ValueRange). (unwrap_or_range o).start_inclusive) none in
    record {
      plain = subst IsPlainArg (sym c.default_value-workers.ensures) (subst IsPlainArg (sym c.value_parser-2.ensures.others) (subst IsPlainArg (sym c.action.ensures) (subst IsPlainArg (sym c.long.ensures) c.new.ensures.plain)));
      global = ap (λ (a : Arg). a.global) c.default_value-workers.ensures ∙ (ap (λ (a : Arg). a.global) c.value_parser-2.ensures.others ∙ (ap (λ (a : Arg). a.global) c.action.ensures ∙ (ap (λ (a : Arg). a.global) c.long.ensures ∙ c.new.ensures.optional.1)));
      action = ap (λ (a : Arg). a.action) c.default_value-workers.ensures ∙ (ap (λ (a : Arg). a.action) c.value_parser-2.ensures.others ∙ ap (λ (a : Arg). a.action) c.action.ensures);
      delim = ap (λ (a : Arg). a.val_delim) c.default_value-workers.ensures ∙ (ap (λ (a : Arg). a.val_delim) c.value_parser-2.ensures.others ∙ (ap (λ (a : Arg). a.val_delim) c.action.ensures ∙ (ap (λ (a : Arg). a.val_delim) c.long.ensures ∙ c.new.ensures.values.0)));
      least = omega arith;
      named = λ empty. let bad : 119 ≡ 0 = ap (λ (u : Text). slice_index u 0) (sym id ∙ empty) in absurd (omega arith);
      own = λ auto. elim auto [
        | inl h ↦
            let bad : 119 ≡ 104 = ap (λ (u : Text). slice_index u 0) (sym id ∙ h) in
            absurd (omega arith)
        | inr h ↦
            let bad : 119 ≡ 118 = ap (λ (u : Text). slice_index u 0) (sym id ∙ h) in
            absurd (omega arith)
      ];
      parser = ap (λ (a : Arg). a.value_parser) c.default_value-workers.ensures ∙ workers_parser c;
      wants = (ap (λ (a : Arg). a.default_vals_ifs.items) c.default_value-workers.ensures ∙ (ap (λ (a : Arg). a.default_vals_ifs.items) c.value_parser-2.ensures.others ∙ (ap (λ (a : Arg). a.default_vals_ifs.items) c.action.ensures ∙ (ap (λ (a : Arg). a.default_vals_ifs.items) c.long.ensures ∙ c.new.ensures.defaults.1))), omega arith);
    }

budget_option : (c : After-try_get_matches_from) → IsOption c.default_value-budget.result S2000
budget_option c =
    let id = budget_id c in
    let none : c.default_value-budget.result.num_vals ≡ None = ap (λ (a : Arg). a.num_vals) c.default_value-budget.ensures ∙ (ap (λ (a : Arg). a.num_vals) c.value_parser-4.ensures.others ∙ (ap (λ (a : Arg). a.num_vals) c.action-2.ensures ∙ (ap (λ (a : Arg). a.num_vals) c.long-2.ensures ∙ c.new-3.ensures.values.1))) in
    let one : length (items_of c.default_value-budget.result.default_vals) ≡ 1 = ap (λ (a : Arg). length (items_of a.default_vals)) c.default_value-budget.ensures in
    let first : least_values c.default_value-budget.result ≡ 1 = ap (λ (o : Option ValueRange). (unwrap_or_range o).start_inclusive) none in
    record {
      plain = subst IsPlainArg (sym c.default_value-budget.ensures) (subst IsPlainArg (sym c.value_parser-4.ensures.others) (subst IsPlainArg (sym c.action-2.ensures) (subst IsPlainArg (sym c.long-2.ensures) c.new-3.ensures.plain)));
      global = ap (λ (a : Arg). a.global) c.default_value-budget.ensures ∙ (ap (λ (a : Arg). a.global) c.value_parser-4.ensures.others ∙ (ap (λ (a : Arg). a.global) c.action-2.ensures ∙ (ap (λ (a : Arg). a.global) c.long-2.ensures ∙ c.new-3.ensures.optional.1)));
      action = ap (λ (a : Arg). a.action) c.default_value-budget.ensures ∙ (ap (λ (a : Arg). a.action) c.value_parser-4.ensures.others ∙ ap (λ (a : Arg). a.action) c.action-2.ensures);
      delim = ap (λ (a : Arg). a.val_delim) c.default_value-budget.ensures ∙ (ap (λ (a : Arg). a.val_delim) c.value_parser-4.ensures.others ∙ (ap (λ (a : Arg). a.val_delim) c.action-2.ensures ∙ (ap (λ (a : Arg). a.val_delim) c.long-2.ensures ∙ c.new-3.ensures.values.0)));
      least = omega arith;
      named = λ empty. let bad : 98 ≡ 0 = ap (λ (u : Text). slice_index u 0) (sym id ∙ empty) in absurd (omega arith);
      own = λ auto. elim auto [
        | inl h ↦
            let bad : 98 ≡ 104 = ap (λ (u : Text). slice_index u 0) (sym id ∙ h) in
            absurd (omega arith)
        | inr h ↦
            let bad : 98 ≡ 118 = ap (λ (u : Text). slice_index u 0) (sym id ∙ h) in
            absurd (omega arith)
      ];
      parser = ap (λ (a : Arg). a.value_parser) c.default_value-budget.ensures ∙ budget_parser c;
      wants = (ap (λ (a : Arg). a.default_vals_ifs.items) c.default_value-budget.ensures ∙ (ap (λ (a : Arg). a.default_vals_ifs.items) c.value_parser-4.ensures.others ∙ (ap (λ (a : Arg). a.default_vals_ifs.items) c.action-2.ensures ∙ (ap (λ (a : Arg). a.default_vals_ifs.items) c.long-2.ensures ∙ c.new-3.ensures.defaults.1))), omega arith);
    }

pub returns-clause-rows : goal.returns-clause-rows
returns-clause-rows c =
    IfOk-weaker c.try_get_matches_from.result _ _
    (λ m h. (h (ap is_simple (command_is c))).0 ∙ ap (λ (a : App). matches_of a (map string_bytes c.args.words.now)) (command_is c))
    c.try_get_matches_from.ensures.matches

fails : (c : After-try_get_matches_from) → FailsBy (fault_of BatchCommand (map string_bytes c.args.words.now)) c.try_get_matches_from.result
fails c =
    subst (λ (a : App). FailsBy (fault_of a (map string_bytes c.args.words.now)) c.try_get_matches_from.result) (command_is c)
    (c.try_get_matches_from.ensures.kinds (ap is_simple_and_free (command_is c)))

pub returns-clause-takes : goal.returns-clause-takes
returns-clause-takes c = fails_ok _ _ (fails c)

pub returns-clause-err : goal.returns-clause-err
returns-clause-err c = fails_err _ _ (fails c)

pub returns-clause-workers : goal.returns-clause-workers
returns-clause-workers c =
    let d = c in
    IfOk-weaker c.try_get_matches_from.result _ _
    (λ m p.
    let read : Reads m d.default_value-workers.result S16 =
    first_reads d.disable_version_flag-bare.result d.in_ok-arg.field-0 d.in_ok-command.command d.default_value-workers.result d.default_value-budget.result m S16 S2000
    d.in_ok-arg.ensures d.in_ok-command.ensures (search rules) (search rules) (search rules) (workers_option d) (budget_option d)
    (λ i. bytes_eq (workers_id d i) (budget_id d i)) (λ i. bytes_eq (budget_id d i) (workers_id d i)) p in
    subst (λ (t : Text). HasNumber (found_of m) t most_workers) (workers_id d) read)
    c.try_get_matches_from.ensures.parsed

pub returns-clause-budget : goal.returns-clause-budget
returns-clause-budget c =
    let d = c in
    IfOk-weaker c.try_get_matches_from.result _ _
    (λ m p.
    let read : Reads m d.default_value-budget.result S2000 =
    second_reads d.disable_version_flag-bare.result d.in_ok-arg.field-0 d.in_ok-command.command d.default_value-workers.result d.default_value-budget.result m S16 S2000
    d.in_ok-arg.ensures d.in_ok-command.ensures (search rules) (search rules) (search rules) (workers_option d) (budget_option d)
    (λ i. bytes_eq (workers_id d i) (budget_id d i)) (λ i. bytes_eq (budget_id d i) (workers_id d i)) p in
    subst (λ (t : Text). HasNumber (found_of m) t most_batch_budget) (budget_id d) read)
    c.try_get_matches_from.ensures.parsed
