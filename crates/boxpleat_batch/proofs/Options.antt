-- What a caller reads of an option with a default after a parse.
use Rattle.std.proofs.Common.{zero, suc, ◌++◌, ◌||◌, ◌≡◌, ◌∙◌, ◌<◌, ◌≤◌, ap, ℕ, Bool, true, false, List, [], ◌∷◌, length, is_some, Option, Some, None, refl, sym, subst, inl, inr, arith, cond}
use Rattle.std.specs.List.{All, slice_index_or}
use Rattle.std.specs.Str.{bytes_eq}
use Rattle.std.specs.Prelude.{option_map, slice_get, find}
use Rattle.std.specs.Borrow.{Bor}
use Rattle.std.proofs.lemmas.Slice.Eq.{bytes_eq-Decides}
use Rattle.std.proofs.lemmas.List.Elements.{All-get_or, All-nil}
use Rattle.clap.specs.Facts.{args_of, groups_of, IsParsed, Entry, EntryPasses, PassesArg, HasReading, HasId, WantsDefault, least_values, parser_of, parser_of_value}
use Rattle.clap.specs.Built.{IsPlain, IsPlainArg, IsParsedFrom, IsAuto, AddsArg, SameRules}
use Rattle.clap.specs.Matches.{matched_of, one_text, found_of, has_subcommand}
use Rattle.clap.specs.Values.{Accepts, read_as, reading_of}
use Rattle.clap.specs.declared.builder.value_parser.Reading.{Reading}
use Rattle.clap.specs.declared.builder.value_parser.ValueParser.{ValueParser}
use Rattle.clap.specs.declared.builder.action.ArgAction.TheVariants.{Count, Set}
use Rattle.clap.specs.declared.builder.arg.Arg.{Arg}
use Rattle.clap.specs.declared.builder.command.Command.{Command}
use Rattle.clap.specs.declared.builder.command.Command.TheViews.{out-Command}
use Rattle.clap.specs.declared.parser.matches.ArgMatches.{ArgMatches}
use Rattle.clap.specs.declared.parser.matches.Found.{Found}
use Rattle.clap.specs.declared.parser.matches.MatchedArg.{MatchedArg}
use Rattle.clap.proofs.CallerLemmas.{entry_by_id, same_rules_by_id, default_present, added_plain}

-- an id that stands at some place is found
found_at : (xs : List Entry) (id : List ℕ) (i : ℕ) → i < length xs → ((d : Entry) → bytes_eq (slice_index_or xs i d).0.now id ≡ true)
    → is_some (option_map (λ e. e.1) (find (λ e. bytes_eq e.0.now id) xs)) ≡ true
found_at [] id i less at = absurd (omega arith)
found_at (x ∷ xs) id zero less at = rw (at x) refl
found_at (x ∷ xs) id (suc i) less at = go (bytes_eq x.0.now id) (found_at xs id i (omega arith) at)
  where
    go : (b : Bool) → is_some (option_map (λ e. e.1) (find (λ e. bytes_eq e.0.now id) xs)) ≡ true
        → is_some (option_map (λ e. e.1) (cond b (Some x) (find (λ e. bytes_eq e.0.now id) xs))) ≡ true
    go true h = refl
    go false h = h

first_some : (xs : List (Bor (List ℕ))) → 0 < length xs → is_some (option_map (λ s. s.now) (slice_get xs 0)) ≡ true
first_some [] lt = absurd (omega arith)
first_some (x ∷ xs) lt = refl

head_passes : (P : Bor (List ℕ) → Type 0) (how : Reading) (vs : List (Bor (List ℕ))) → All P vs
    → is_some (option_map (λ s. s.now) (slice_get vs 0)) ≡ true
    → (v : Bor (List ℕ)) × (option_map (λ s. read_as how s.now) (slice_get vs 0) ≡ Some (read_as how v.now)) × P v
head_passes P how [] h some = cc
head_passes P how (v ∷ vs) h some = (v, refl, All-get_or P (v ∷ vs) 0 v (omega arith) h)

one_text_at_entry : (f : Found) (id : List ℕ) (x : MatchedArg) (how : Reading) (t : List ℕ) → matched_of f id ≡ Some x → x.reading ≡ how
    → option_map (λ s. read_as how s.now) (slice_get x.vals.items 0) ≡ Some t → one_text f id ≡ Some t
one_text_at_entry f id x how t found is v = rw (found, is) v

-- an option of the Set action with a value parser and a default, which nothing excludes
pub record IsOption (a : Arg) (q : ValueParser) : Type 0 where
  pub plain : IsPlainArg a
  pub global : a.global ≡ false
  pub action : a.action ≡ Some Set
  pub delim : a.val_delim ≡ None
  pub least : 1 ≤ least_values a
  pub named : a.id.now ≡ [] → ⊥
  pub own : IsAuto a → ⊥
  pub parser : a.value_parser ≡ Some q
  pub wants : WantsDefault a

module _ (old : Command) (m : ArgMatches) (p : IsParsedFrom old m) (plain : IsPlain old) (globals : (out-Command old).has_globals ≡ false) (k : ℕ) (d a : Arg) (q : ValueParser)
    (lt : k < length (args_of old)) (is : slice_index_or (args_of old) k d ≡ a)
    (unique : (j : ℕ) (e : Arg) → j < length (args_of old) → bytes_eq (slice_index_or (args_of old) j e).id.now a.id.now ≡ true → j ≡ k)
    (option : IsOption a q) where
  abbrev id : List ℕ
  id = a.id.now

  abbrev f : Found
  f = found_of m

  same_rules : (j : ℕ) (x : Arg) → j < length (args_of p.built) → slice_index_or (args_of p.built) j x ≡ x → bytes_eq x.id.now id ≡ true → SameRules a x
  same_rules j x high at same =
      subst (λ (w : Arg). SameRules w x) is
      (same_rules_by_id old m p k d lt
      (λ i e low here. unique i e low (subst (λ (w : Arg). bytes_eq (slice_index_or (args_of old) i e).id.now w.id.now ≡ true) is here))
      (λ auto. option.own (subst IsAuto is auto)) j x high at
      (subst (λ (w : Arg). bytes_eq x.id.now w.id.now ≡ true) (sym is) same))

  parsed : IsParsed p.built f (has_subcommand m)
  parsed = p.parsed (p.from.globals ∙ globals)

  has_entry : is_some (matched_of f id) ≡ true
  has_entry =
      let there : HasId f id = subst (λ (w : Arg). HasId f w.id.now) is (default_present old m p globals k d lt (subst WantsDefault (sym is) option.wants)) in
      found_at f.entries.items id there.0 there.1 there.2

  no_groups : groups_of p.built ≡ []
  no_groups = (p.from.plain plain).1

  reads_as : (r : Reading) → HasReading p.built id r → r ≡ reading_of q
  reads_as r any =
      let s = same_rules any.0 any.1 any.2 any.3 any.4.0 in
      let is_q : parser_of any.1 ≡ q = ap parser_of_value (s.parser q option.parser) in
      sym any.4.1 ∙ ap reading_of is_q

  passes : (v : Bor (List ℕ)) → PassesArg p.built id v.now → Accepts a.ignore_case q v.now
  passes v pass =
      let s = same_rules pass.0 pass.1 pass.2 pass.3 pass.4.0 in
      let is_q : parser_of pass.1 ≡ q = ap parser_of_value (s.parser q option.parser) in
      let as_q : Accepts pass.1.ignore_case q v.now = subst (λ (w : ValueParser). Accepts pass.1.ignore_case w v.now) is_q pass.4.1 in
      subst (λ (b : Bool). Accepts b q v.now) s.ignore_case as_q

  -- the entry of the option holds a value
  has_values : (x : MatchedArg) (e : Entry) → e.1 ≡ x → e.0.now ≡ id → EntryPasses p.built e → 0 < length x.vals.items
  has_values x e same_x key_id pass = elim pass.1 [
    | inl h ↦ elim h.1 [
      | inl empty ↦ absurd (option.named (sym key_id ∙ empty))
      | inr has ↦
          let bad : 0 < 0 = rw no_groups at has in
          absurd (omega arith)
    ]
    | inr (inl v) ↦ subst (λ (y : MatchedArg). 0 < length y.vals.items) same_x v
    | inr (inr (inl h)) ↦
        let any = h.1 in
        let s = same_rules any.0 any.1 any.2 any.3 (rw key_id at any.4.0) in
        let is_set : any.1.action ≡ Some Set = s.action Set option.action in
        let bad : Set ≡ Count = rw is_set at any.4.1 in
        cc
    | inr (inr (inr h)) ↦
        let s = same_rules h.0 h.1 h.2 h.3 (rw key_id at h.4.0) in
        elim h.4.1 [
          | inl none ↦
              let one = s.least option.action option.least in
              absurd (omega arith)
          | inr has ↦
              let bad : false ≡ true = rw (s.val_delim, option.delim) at has in
              cc
        ]
  ]

  read_at : (x : MatchedArg) (e : Entry) → matched_of f id ≡ Some x → e.1 ≡ x → e.0.now ≡ id → EntryPasses p.built e
      → (t : List ℕ) × (one_text f id ≡ Some (read_as (reading_of q) t)) × Accepts a.ignore_case q t
  read_at x e found same_x key_id pass =
      let no_group : e.1.is_group ≡ true → ⊥ = λ g. elim (pass.3 g) [
        | inl empty ↦ option.named (sym key_id ∙ empty)
        | inr lots ↦
            let bad : 0 < 0 = rw no_groups at lots in
            absurd (omega arith)
      ] in
      let all : All (λ v. PassesArg p.built id v.now) x.vals.items = elim pass.0 [
        | inl g ↦ absurd (no_group g)
        | inr vals ↦ subst (λ (w : List ℕ). All (λ v. PassesArg p.built w v.now) x.vals.items) key_id (rw same_x at vals)
      ] in
      let how : e.1.reading ≡ reading_of q = elim pass.4 [
        | inl g ↦ absurd (no_group g)
        | inr h ↦ reads_as e.1.reading (subst (λ (w : List ℕ). HasReading p.built w e.1.reading) key_id h)
      ] in
      finish x
      (head_passes (λ v. PassesArg p.built id v.now) (reading_of q) x.vals.items all (first_some x.vals.items (has_values x e same_x key_id pass)))
      found (ap (λ (y : MatchedArg). y.reading) (sym same_x) ∙ how)
    where
      finish : (x : MatchedArg)
          → ((v : Bor (List ℕ)) × (option_map (λ s. read_as (reading_of q) s.now) (slice_get x.vals.items 0) ≡ Some (read_as (reading_of q) v.now)) × PassesArg p.built id v.now)
          → matched_of f id ≡ Some x → x.reading ≡ reading_of q
          → (t : List ℕ) × (one_text f id ≡ Some (read_as (reading_of q) t)) × Accepts a.ignore_case q t
      finish x hd found is = (hd.0.now, one_text_at_entry f id x (reading_of q) (read_as (reading_of q) hd.0.now) found is hd.1, passes hd.0 hd.2)

  -- the option has a text that passed its parser, and is read as that parser says
  pub option_reads : (t : List ℕ) × (one_text f id ≡ Some (read_as (reading_of q) t)) × Accepts a.ignore_case q t
  option_reads = go (matched_of f id) refl has_entry
    where
      step : (x : MatchedArg) → matched_of f id ≡ Some x
          → ((e : Entry) × (e.1 ≡ x) × (bytes_eq e.0.now id ≡ true) × EntryPasses p.built e)
          → (t : List ℕ) × (one_text f id ≡ Some (read_as (reading_of q) t)) × Accepts a.ignore_case q t
      step x found got = read_at x got.0 found got.1 ((bytes_eq-Decides got.0.0.now id).0 got.2) got.3

      go : (o : Option MatchedArg) → matched_of f id ≡ o → is_some (matched_of f id) ≡ true
          → (t : List ℕ) × (one_text f id ≡ Some (read_as (reading_of q) t)) × Accepts a.ignore_case q t
      go None e h =
          let bad : false ≡ true = rw e at h in
          cc
      go (Some x) e h = step x e (entry_by_id (EntryPasses p.built) f.entries.items id x parsed.values e)

-- an option keeps what it is where its rules are kept
kept_option : (a b : Arg) (q : ValueParser) → SameRules a b → IsPlainArg b → IsOption a q → IsOption b q
kept_option a b q s plain o = record {
  plain = plain;
  global = s.global ∙ o.global;
  action = s.action Set o.action;
  delim = s.val_delim ∙ o.delim;
  least = s.least o.action o.least;
  named = λ none. o.named (sym (ap (λ t. t.now) s.id) ∙ none);
  own = λ auto. o.own (elim auto [ inl h ↦ inl (sym (ap (λ t. t.now) s.id) ∙ h) | inr h ↦ inr (sym (ap (λ t. t.now) s.id) ∙ h) ]);
  parser = s.parser q o.parser;
  wants = (s.ifs ∙ o.wants.0, subst (λ l. 0 < length l) (sym (s.defaults o.wants.1)) o.wants.1);
}

only_first : (x y : Arg) → bytes_eq y.id.now x.id.now ≡ false → (j : ℕ) (e : Arg) → j < 2 → bytes_eq (slice_index_or (x ∷ y ∷ []) j e).id.now x.id.now ≡ true → j ≡ 0
only_first x y differ zero e low same = refl
only_first x y differ (suc zero) e low same =
    let bad : false ≡ true = sym differ ∙ same in
    cc
only_first x y differ (suc (suc j)) e low same = absurd (omega arith)

only_second : (x y : Arg) → bytes_eq x.id.now y.id.now ≡ false → (j : ℕ) (e : Arg) → j < 2 → bytes_eq (slice_index_or (x ∷ y ∷ []) j e).id.now y.id.now ≡ true → j ≡ 1
only_second x y differ zero e low same =
    let bad : false ≡ true = sym differ ∙ same in
    cc
only_second x y differ (suc zero) e low same = refl
only_second x y differ (suc (suc j)) e low same = absurd (omega arith)

-- the option has a text that its parser takes, and is read as that says
abbrev pub Reads : ArgMatches → Arg → ValueParser → Type 0
Reads m a q = (t : List ℕ) × (one_text (found_of m) a.id.now ≡ Some (read_as (reading_of q) t)) × Accepts a.ignore_case q t

same_reads : (m : ArgMatches) (a b : Arg) (q : ValueParser) → SameRules a b → Reads m b q → Reads m a q
same_reads m a b q s r = (
  r.0,
  subst (λ (w : List ℕ). one_text (found_of m) w ≡ Some (read_as (reading_of q) r.0)) (ap (λ t. t.now) s.id) r.1,
  subst (λ (c : Bool). Accepts c q r.0) s.ignore_case r.2,
)

-- the two options of a command that has no other argument
module _ (start mid cmd : Command) (a b : Arg) (m : ArgMatches) (q r : ValueParser) (add_a : AddsArg start a mid) (add_b : AddsArg mid b cmd)
    (args : args_of start ≡ []) (groups : groups_of start ≡ []) (globals : (out-Command start).has_globals ≡ false)
    (option_a : IsOption a q) (option_b : IsOption b r) (apart : bytes_eq a.id.now b.id.now ≡ false) (apart_back : bytes_eq b.id.now a.id.now ≡ false) (p : IsParsedFrom cmd m) where
  abbrev x : Arg
  x = add_a.arg

  abbrev y : Arg
  y = add_b.arg

  list : args_of cmd ≡ x ∷ y ∷ []
  list = add_b.args ∙ ap (λ (l : List Arg). l ++ y ∷ []) (add_a.args ∙ ap (λ (l : List Arg). l ++ x ∷ []) args)

  plain : IsPlain cmd
  plain =
      let start_plain : IsPlain start = (subst (All IsPlainArg) (sym args) (All-nil IsPlainArg), groups) in
      added_plain mid cmd b add_b (added_plain start mid a add_a start_plain option_a.plain) option_b.plain

  no_globals : (out-Command cmd).has_globals ≡ false
  no_globals =
      add_b.globals ∙ (ap (λ (g : Bool). g || b.global) (add_a.globals ∙ (ap (λ (g : Bool). g || a.global) globals ∙ ap (λ (g : Bool). false || g) option_a.global))
      ∙ ap (λ (g : Bool). false || g) option_b.global)

  within : (j : ℕ) → j < 2 → j < length (args_of cmd)
  within j less = subst (λ (l : List Arg). j < length l) (sym list) less

  first : slice_index_or (args_of cmd) 0 a ≡ x
  first = ap (λ (l : List Arg). slice_index_or l 0 a) list

  second : slice_index_or (args_of cmd) 1 a ≡ y
  second = ap (λ (l : List Arg). slice_index_or l 1 a) list

  same_ids : (s t : Arg) (u v : Arg) → SameRules s u → SameRules t v → bytes_eq s.id.now t.id.now ≡ false → bytes_eq u.id.now v.id.now ≡ false
  same_ids s t u v su tv differ = (λ i. bytes_eq (su.id i).now (tv.id i).now) ∙ differ

  pub first_reads : Reads m a q
  first_reads =
      let option : IsOption x q = kept_option a x q add_a.rules (subst IsPlainArg first (plain.0 0 a (within 0 (omega arith)))) option_a in
      same_reads m a x q add_a.rules
      (option_reads cmd m p plain no_globals 0 a x q (within 0 (omega arith)) first
      (λ j e low same. only_first x y (same_ids b a y x add_b.rules add_a.rules apart_back) j e (subst (λ (l : List Arg). j < length l) list low)
      (subst (λ (l : List Arg). bytes_eq (slice_index_or l j e).id.now x.id.now ≡ true) list same))
      option)

  pub second_reads : Reads m b r
  second_reads =
      let option : IsOption y r = kept_option b y r add_b.rules (subst IsPlainArg second (plain.0 1 a (within 1 (omega arith)))) option_b in
      same_reads m b y r add_b.rules
      (option_reads cmd m p plain no_globals 1 a y r (within 1 (omega arith)) second
      (λ j e low same. only_second x y (same_ids a b x y add_a.rules add_b.rules apart) j e (subst (λ (l : List Arg). j < length l) list low)
      (subst (λ (l : List Arg). bytes_eq (slice_index_or l j e).id.now y.id.now ≡ true) list same))
      option)
