-- A chain over the table gives one over the unit cells.
use Rattle.std.proofs.Common.{◌≡◌, ℕ, ◌+◌, ◌-◌, ◌<◌, ◌↔◌, refl, sym, subst, arith, inl, inr}
use Rattle.bp_contour.proofs.Scaled.{AreSteps, Lies, lies_at}
use Rattle.bp_pieces.specs.declared.kind.Kind.{Kind}
use Rattle.bp_pieces.specs.declared.kind.Kind.TheVariants.{Outside, Reached}
use Rattle.bp_pieces.specs.Labels.{Near}
use Rattle.bp_pieces.specs.Pieces.{AreNeighbours, IsJoined}
use Rattle.bp_pieces.specs.Pieces.IsJoined.{alone, onward}
use Rattle.bp_pieces.proofs.Joined.{joined_on, last_in}
use Rattle.bp_pieces.proofs.Scaled.{AreClose, close_cases, in_one}

-- numbers in such a relation, one between each of two pairs of neighbouring cuts
record Crosses (cut : ℕ → ℕ) (n : ℕ) (Rel : ℕ → ℕ → Type 0) (i k : ℕ) : Type 0 where
  pub x : ℕ
  pub u : ℕ
  pub at_x : Lies cut n i x
  pub at_u : Lies cut n k u
  pub so : Rel x u

module _ (cut : ℕ → ℕ) (n end : ℕ) (h : AreSteps cut n end) where
  -- the last number before a cut
  last_before : (i k : ℕ) → i + 1 ≡ k → k < n → Lies cut n i (cut k - 1)
  last_before i k e within =
      let less : cut i < cut k = h.rise i k (omega (arith, e)) (omega (arith, within)) in
      record {
        within = omega (arith, e, within);
        from = omega (arith, less);
        to = subst (λ (m : ℕ). cut k - 1 < cut m) (sym e) (omega (arith, less));
      }

  step_up : (i k : ℕ) → i + 1 ≡ k → k < n → cut k - 1 + 1 ≡ cut k
  step_up i k e within = omega (arith, h.rise i k (omega (arith, e)) (omega (arith, within)))

  cross : (i k : ℕ) → i < n → k < n → AreNeighbours i k → Crosses cut n AreNeighbours i k
  cross i k i_in k_in (inl e) = record {
    x = cut k - 1;
    u = cut k;
    at_x = last_before i k e k_in;
    at_u = lies_at cut n end h k k_in;
    so = inl (step_up i k e k_in);
  }
  cross i k i_in k_in (inr e) = record {
    x = cut i;
    u = cut i - 1;
    at_x = lies_at cut n end h i i_in;
    at_u = last_before k i e i_in;
    so = inr (step_up k i e i_in);
  }

  cross_close : (i k : ℕ) → i < n → k < n → AreClose i k → Crosses cut n AreClose i k
  cross_close i k i_in k_in close = elim (close_cases i k close) [
    | inl same ↦
        record {
          x = cut i;
          u = cut i;
          at_x = lies_at cut n end h i i_in;
          at_u = subst (λ (m : ℕ). Lies cut n m (cut i)) same (lies_at cut n end h i i_in);
          so = (omega arith, omega arith);
        }
    | inr beside ↦
        let c = cross i k i_in k_in beside in
        record {
          x = c.x;
          u = c.u;
          at_x = c.at_x;
          at_u = c.at_u;
          so = elim c.so [ inl e ↦ (omega (arith, e), omega (arith, e)) | inr e ↦ (omega (arith, e), omega (arith, e)) ];
        }
  ]

-- near unit cells, one in each of two cells of the table
record Meets (X Y : ℕ → ℕ) (w h : ℕ) (kind : Kind) (a b c d : ℕ) : Type 0 where
  pub x : ℕ
  pub y : ℕ
  pub u : ℕ
  pub v : ℕ
  pub at_x : Lies X w a x
  pub at_y : Lies Y h b y
  pub at_u : Lies X w c u
  pub at_v : Lies Y h d v
  pub near : Near kind x y u v

module _ (In Held : ℕ → ℕ → Type 0) (kind : Kind) (X Y : ℕ → ℕ) (w h side : ℕ) (columns : AreSteps X w side) (rows : AreSteps Y h side) (same : (a b x y : ℕ) → Lies X w a x → Lies Y h b y → (In x y ↔ Held a b)) (In_in : (x y : ℕ) → In x y → (x < side) × (y < side)) (Held_in : (a b : ℕ) → Held a b → (a < w) × (b < h)) where
  meets : (k : Kind) (a b c d : ℕ) → a < w → b < h → c < w → d < h → Near k a b c d → Meets X Y w h k a b c d
  meets Reached a b c d a_in b_in c_in d_in (inl (e, beside)) =
      let r = cross Y h side rows b d b_in d_in beside in
      record {
        x = X a;
        y = r.x;
        u = X a;
        v = r.u;
        at_x = lies_at X w side columns a a_in;
        at_y = r.at_x;
        at_u = subst (λ (m : ℕ). Lies X w m (X a)) e (lies_at X w side columns a a_in);
        at_v = r.at_u;
        near = inl (refl, r.so);
      }
  meets Reached a b c d a_in b_in c_in d_in (inr (e, beside)) =
      let r = cross X w side columns a c a_in c_in beside in
      record {
        x = r.x;
        y = Y b;
        u = r.u;
        v = Y b;
        at_x = r.at_x;
        at_y = lies_at Y h side rows b b_in;
        at_u = r.at_u;
        at_v = subst (λ (m : ℕ). Lies Y h m (Y b)) e (lies_at Y h side rows b b_in);
        near = inr (refl, r.so);
      }
  meets Outside a b c d a_in b_in c_in d_in n =
      let p = cross_close X w side columns a c a_in c_in (n.0, n.1) in
      let q = cross_close Y h side rows b d b_in d_in (n.2, n.3) in
      record {
        x = p.x;
        y = q.x;
        u = p.u;
        v = q.u;
        at_x = p.at_x;
        at_y = q.at_x;
        at_u = p.at_u;
        at_v = q.at_u;
        near = (p.so.0, p.so.1, q.so.0, q.so.1);
      }

  pub from_table : (a b c d x y u v : ℕ) → IsJoined Held (Near kind) a b c d → Lies X w a x → Lies Y h b y → Lies X w c u → Lies Y h d v → IsJoined In (Near kind) x y u v
  from_table a b _ _ x y u v (alone i) la lb lc ld =
      in_one In Held kind X Y w h side columns rows same In_in a b x y u v i la lb lc ld
  from_table a b _ _ x y u v (onward {u = p} {v = q} j s t n i) la lb lc ld =
      let (p_in, q_in) = Held_in p q (last_in Held (Near kind) a b p q j) in
      let (s_in, t_in) = Held_in s t i in
      let m = meets kind p q s t p_in q_in s_in t_in n in
      let before = from_table a b p q x y m.x m.y j la lb m.at_x m.at_y in
      let over : IsJoined In (Near kind) x y m.u m.v = onward before m.u m.v m.near ((same s t m.u m.v m.at_u m.at_v).1 i) in
      joined_on In (Near kind) x y m.u m.v u v over (in_one In Held kind X Y w h side columns rows same In_in s t m.u m.v u v i m.at_u m.at_v lc ld)
