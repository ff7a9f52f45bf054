-- Bytes in the JSON form, and the elements of a value.
use Rattle.std.proofs.Common.{◌≡◌, ℕ, zero, suc, ◌<◌, Bool, true, false, cond, ◌==◌, List, [], ◌∷◌, length, get_or, map, Option, Some, None, refl, sym, ◌∙◌, ap, subst, codes, arith}
use Rattle.std.proofs.lemmas.List.{get_or-map, length-map}
use Rattle.serde_json.specs.Data.{Data, array, Items, no_items}
use Rattle.serde_json.specs.Find.{get, as_array}
use Rattle.serde_json.specs.Events.{items_len}
use Rattle.serde_json.specs.View.{view, items_of, items_view}
use Rattle.serde_json.specs.declared.value.Value.{Value}
use Rattle.serde_json.proofs.Views.{items_len-items_view}
use Rattle.bp_tree.specs.declared.edge.Edge.{Edge}
use Rattle.bp_tree.specs.declared.fault.TreeKind.{TreeKind}
use Rattle.bp_tree.specs.declared.fault.TreeKind.TheVariants.{TooLong, BadJson, BadShape, BadByte, WordCount, BadName, BadLength, UnknownParent, RepeatedName, TooManyNodes, Empty, RootIsLeaf, TooManyLeaves}
use Rattle.bp_tree.specs.Json.{is_space, is_json, IsValue, HasElements, GivesElements, HasNoValue, HasNoElements, element}
use Rattle.bp_tree.specs.Faults.{HasElementFault, IsFirstElementFault, IsJsonFault}

json_space : (b : ℕ) (bs : List ℕ) → is_space b ≡ true → is_json (b ∷ bs) ≡ is_json bs
unfolding is_json
json_space b bs space = ap (λ (x : Bool). cond x (is_json bs) (b == 123)) space

pub json_first : (b : ℕ) (bs : List ℕ) → is_space b ≡ false → is_json (b ∷ bs) ≡ (b == 123)
unfolding is_json
json_first b bs other = ap (λ (x : Bool). cond x (is_json bs) (b == 123)) other

json_none : is_json [] ≡ false
unfolding is_json
json_none = refl

-- the first byte that is no space
pub json_at : (bs : List ℕ) (i : ℕ) → i < length bs → ((k : ℕ) → k < i → is_space (get_or bs k 0) ≡ true) → is_space (get_or bs i 0) ≡ false → (get_or bs i 0 == 123) ≡ is_json bs
json_at [] i less spaces other = absurd (omega arith)
json_at (b ∷ bs) zero less spaces other = sym (json_first b bs other)
json_at (b ∷ bs) (suc i) less spaces other =
    json_at bs i (omega arith) (λ k l. spaces (suc k) (omega arith)) other ∙ sym (json_space b bs (spaces 0 (omega arith)))

pub json_spaces : (bs : List ℕ) → ((k : ℕ) → k < length bs → is_space (get_or bs k 0) ≡ true) → false ≡ is_json bs
json_spaces [] spaces = sym json_none
json_spaces (b ∷ bs) spaces = json_spaces bs (λ k l. spaces (suc k) (omega arith)) ∙ sym (json_space b bs (spaces 0 (omega arith)))

same_items : (xs ys : List Data) → items_of xs ≡ items_of ys → xs ≡ ys
same_items [] [] same = refl
same_items [] (y ∷ ys) same = absurd (let bad : ⊥ = cc in bad)
same_items (x ∷ xs) [] same = absurd (let bad : ⊥ = cc in bad)
same_items (x ∷ xs) (y ∷ ys) same =
    let head : x ≡ y = cc in
    let tail : items_of xs ≡ items_of ys = cc in
    let rest = same_items xs ys tail in
    λ i. head i ∷ rest i

same_element : (e f : Edge) → element e ≡ element f → e ≡ f
same_element e f same =
    let upper : e.upper ≡ f.upper = cc in
    let lower : e.lower ≡ f.lower = cc in
    let long : e.length ≡ f.length = cc in
    λ i. record { upper = upper i; lower = lower i; length = long i }

same_elements : (es fs : List Edge) → map element es ≡ map element fs → es ≡ fs
same_elements [] [] same = refl
same_elements [] (f ∷ fs) same = absurd (omega (arith, ap length same))
same_elements (e ∷ es) [] same = absurd (omega (arith, ap length same))
same_elements (e ∷ es) (f ∷ fs) same =
    let head : element e ≡ element f = cc in
    let tail : map element es ≡ map element fs = cc in
    let first = same_element e f head in
    let rest = same_elements es fs tail in
    λ i. first i ∷ rest i

-- bytes have one value, and a value is one of one list of elements
pub one_value : (bytes : List ℕ) (c d : Data) → IsValue bytes c → IsValue bytes d → c ≡ d
unfolding IsValue
one_value bytes c d (text_c, is_c) (text_d, is_d) = let same : c ≡ d = cc in same

array_items : (is js : Items) → Some (array is) ≡ Some (array js) → is ≡ js
array_items is js same = let h : is ≡ js = cc in h

has_one : (d : Data) (es fs : List Edge) → HasElements d es → HasElements d fs → es ≡ fs
unfolding HasElements
has_one d es fs first second = same_elements es fs (same_items (map element es) (map element fs) (array_items (items_of (map element es)) (items_of (map element fs)) (sym first ∙ second)))

pub one_given : (bytes : List ℕ) (es fs : List Edge) → GivesElements bytes es → GivesElements bytes fs → es ≡ fs
one_given bytes es fs (c, is_c, has_c) (d, is_d, has_d) =
    has_one d es fs (subst (λ (x : Data). HasElements x es) (one_value bytes c d is_c is_d) has_c) has_d

-- a list of another length than 3 is no element
pub not_three : (d : Data) (vs : List Value) (e : Edge) → Some (items_view vs) ≡ as_array d → (length vs ≡ 3 → ⊥) → d ≡ element e → ⊥
not_three d vs e is other same =
    let items : Some (items_view vs) ≡ as_array (element e) = is ∙ ap as_array same in
    let here : items_view vs ≡ some_items (as_array (element e)) = ap some_items items in
    other (omega (arith, ap items_len here, items_len-items_view vs))
  where
    some_items : Option Items → Items
    some_items None = no_items
    some_items (Some is) = is

-- the values that are read are those of the elements
pub are_elements : (d : Data) (vs : List Value) (es : List Edge) → get (codes "edges") d ≡ Some (array (items_view vs)) → map view vs ≡ map element es → HasElements d es
unfolding HasElements
are_elements d vs es is same = is ∙ ap (λ (ds : List Data). Some (array (items_of ds))) same

pub no_elements : (d : Data) (vs : List Value) (k : ℕ) (v : Value) → get (codes "edges") d ≡ Some (array (items_view vs)) → k < length vs → v ≡ get_or vs k v → ((e : Edge) → view v ≡ element e → ⊥) → (es : List Edge) → HasElements d es → ⊥
unfolding HasElements
no_elements d vs k v is less here none es has =
    let same : map view vs ≡ map element es = same_items (map view vs) (map element es) (array_items (items_view vs) (items_of (map element es)) (sym is ∙ has)) in
    let long : k < length es = omega (arith, less, ap length same, length-map vs view, length-map es element) in
    let e = get_or es k (record { upper = []; lower = []; length = 0 }) in
    none e (ap view here ∙ sym (get_or-map view vs k v (view v) less) ∙ ap (λ (ds : List Data). get_or ds k (view v)) same ∙ get_or-map element es k (record { upper = []; lower = []; length = 0 }) (view v) long)

-- what stops bytes in the JSON form before their end
pub data JsonStop (bytes : List ℕ) : ℕ → TreeKind → Type 0 where
  no_value : HasNoValue bytes → JsonStop bytes 0 BadJson
  misshapen : HasNoElements bytes → JsonStop bytes 0 BadShape
  at_element : {n : ℕ} {kind : TreeKind} (es : List Edge) → GivesElements bytes es → IsFirstElementFault es n kind → JsonStop bytes n kind

pub json_stop : (bytes : List ℕ) (n : ℕ) (kind : TreeKind) → IsJsonFault bytes n kind → JsonStop bytes n kind
json_stop bytes n BadJson h = subst (λ (m : ℕ). JsonStop bytes m BadJson) (sym h.0) (no_value h.1)
json_stop bytes n BadShape h = subst (λ (m : ℕ). JsonStop bytes m BadShape) (sym h.0) (misshapen h.1)
json_stop bytes n BadName (es, gives, first) = at_element es gives first
json_stop bytes n BadLength (es, gives, first) = at_element es gives first
json_stop bytes n UnknownParent (es, gives, first) = at_element es gives first
json_stop bytes n RepeatedName (es, gives, first) = at_element es gives first
json_stop bytes n TooManyNodes (es, gives, first) = at_element es gives first
json_stop bytes n BadByte (es, gives, first) = at_element es gives first
json_stop bytes n WordCount (es, gives, first) = at_element es gives first
json_stop bytes n TooLong (es, gives, first) = at_element es gives first
json_stop bytes n Empty (es, gives, first) = at_element es gives first
json_stop bytes n RootIsLeaf (es, gives, first) = at_element es gives first
json_stop bytes n TooManyLeaves (es, gives, first) = at_element es gives first

pub no_json : (bytes : List ℕ) → HasNoValue bytes → HasNoElements bytes → ⊥
no_json bytes none (d, is, other) = none d is

pub none_given : (bytes : List ℕ) (es : List Edge) → HasNoElements bytes → GivesElements bytes es → ⊥
none_given bytes es (c, is_c, none) (d, is_d, has) =
    none es (subst (λ (x : Data). HasElements x es) (one_value bytes d c is_d is_c) has)

-- where elements are given, a first fault is a fault of one of them
pub given_fault : (bytes : List ℕ) (es : List Edge) (n : ℕ) (kind : TreeKind) → GivesElements bytes es → IsJsonFault bytes n kind → (fs : List Edge) × GivesElements bytes fs × HasElementFault fs n kind
given_fault bytes es n kind gives fault = go (json_stop bytes n kind fault)
  where
    go : {m : ℕ} {k : TreeKind} → JsonStop bytes m k → (fs : List Edge) × GivesElements bytes fs × HasElementFault fs m k
    go (no_value none) = absurd (none gives.0 gives.1)
    go (misshapen none) = absurd (none_given bytes es none gives)
    go (at_element fs given first) = (fs, given, (first.element, first.has.has))
