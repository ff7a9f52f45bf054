-- The facts of lemmas as they are stored.
use Rattle.std.specs.Prelude.{◌<◌, ◌^◌, List, map}
use Rattle.bp_arrangement.specs.declared.fact.Fact.{Fact}
use Rattle.bp_arrangement.specs.declared.fact.Fact.TheVariants.{Before, NotBefore, Least, Below}
use Rattle.bp_replay.specs.declared.packed.Kind.{Kind}
use Rattle.bp_replay.specs.declared.packed.Kind.TheVariants as kind
use Rattle.bp_replay.specs.declared.packed.Packed.{Packed}

-- the fact that a packed one stands for
abbrev pub fact_as : Kind → Packed → Fact
fact_as kind.Before p = Before p.axis p.first p.second
fact_as kind.NotBefore p = NotBefore p.axis p.first p.second
fact_as kind.Least p = Least p.axis p.first p.code
fact_as kind.Below p = Below p.axis p.first p.code

unfoldable pub fact_of : Packed → Fact
fact_of p = fact_as p.kind p

abbrev pub facts_in : List Packed → List Fact
facts_in facts = map fact_of facts

-- leaves of facts that are kept are below 256, and codes are those of numbers of nine digits
abbrev pub IsSmall : Fact → Type 0
IsSmall (Before axis first second) = (first < 2 ^ 8) × (second < 2 ^ 8)
IsSmall (NotBefore axis first second) = (first < 2 ^ 8) × (second < 2 ^ 8)
IsSmall (Least axis leaf code) = (leaf < 2 ^ 8) × (code < 2 ^ 32)
IsSmall (Below axis leaf code) = (leaf < 2 ^ 8) × (code < 2 ^ 32)
