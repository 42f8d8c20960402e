-- The values of the bias of rows, and the first refusal, are determined by the constraints, the motions, the turns and the forces of rows alone.
use Rattle.std.proofs.Common.{◌≡◌, ℕ, ◌+◌, ◌≤◌, [], ◌∷◌, length, Ok, Err, inl, refl, ap, ◌∙◌, sym, arith}
use Rattle.rb_num.specs.Interval.{Interval}
use Rattle.rb_flat.specs.Contact.{Constraints, HasRow, RowsFit}
use Rattle.rb_sweep.specs.Sweep.{Among}
use Rattle.rb_sweep.proofs.Climbing.{climbs_upward, among_upward, run_upward}
use Rattle.rb_sweep.proofs.NamingLaws.{found, refusal, same_values, not_both, one_refusal}
use Rattle.rb_work.specs.declared.names.RowFault.{RowFault}
use Rattle.rb_work.specs.Path.{Ascends}
use Rattle.rb_work.specs.View.{View, Extent, IsSized, extent_of, v_at, a_at, O_at, K_at}
use Rattle.rb_work.specs.Place.{Place, v_of, a_of, O_of, K_of, g_of, ValueOf, look, put}
use Rattle.rb_work.proofs.PlaceLaws.{Inside, Call, IsCall, naming, ordered}
use Rattle.rb_work.proofs.Sizes.{room_for}
use Rattle.rb_tree.specs.Robot.{Tree}
use Rattle.rb_tree.specs.Shape.{shape_of}
use Rattle.rb_constraint.specs.Bias.{bias_by, difference_by, g_rule, AreBias, rule, order, SameMotions, IsBiasRefused, BiasHasOneAnswer}
use Rattle.rb_constraint.specs.Steps.{bias_step, bias_of}

abbrev pub rank : Place → ℕ
rank (g_of r) = r
rank _ = 0

abbrev pub Own : Constraints Interval → Place → Type 0
Own k (g_of r) = HasRow k r
Own k _ = ⊥

abbrev pub Read : Tree → Constraints Interval → Place → Type 0
Read tree k (v_of i) = i ≤ length tree.bodies
Read tree k (a_of i) = i ≤ length tree.bodies
Read tree k (O_of i) = i ≤ length tree.bodies
Read tree k (K_of r) = HasRow k r
Read tree k _ = ⊥

abbrev pub call : Tree → Constraints Interval → Extent → Call
call tree k extent = record {
  rule = rule k;
  order = order k;
  extent = extent;
  rank = rank;
  Own = Own k;
  Read = Read tree k;
  rest = λ w. record w { g = [] };
  sweep = bias_of k;
}

g_reads : (k : Constraints Interval) (r : ℕ) (s t : View) → K_at s r ≡ K_at t r → ((i : ℕ) → (i ≡ (k.row r).first) → (v_at s i ≡ v_at t i) × (a_at s i ≡ a_at t i) × (O_at s i ≡ O_at t i))
    → ((i : ℕ) → (i ≡ (k.row r).second) → (v_at s i ≡ v_at t i) × (a_at s i ≡ a_at t i) × (O_at s i ≡ O_at t i)) → g_rule k r s ≡ g_rule k r t
unfolding g_rule difference_by bias_by
g_reads k r s t h first second =
    let p = first (k.row r).first refl in
    let q = second (k.row r).second refl in
    rw (h, p.0, p.1, p.2, q.0, q.1, q.2) refl

module _ (tree : Tree) (k : Constraints Interval) (fit : RowsFit (shape_of tree) k) where
  inside : (extent : Extent) → k.rows ≤ extent.rows → (m : Place) → Own k m → Inside extent m
  inside extent e (g_of r) h = let to = h.to in omega arith
  inside extent e _ h = absurd h

  apart : (extent : Extent) (m : Place) (x : ValueOf m) (w : View) → Own k m → (call tree k extent).rest w ≡ (call tree k extent).rest (put m x w)
  apart extent (g_of r) x w h = refl
  apart extent _ x w h = absurd h

  abbrev Given : View → View → Type 0
  Given s t = (m : Place) → Read tree k m → look m s ≡ look m t

  reads : (n : Place) (s t : View) → Own k n → Given s t → rule k n s ≡ rule k n t
  reads (g_of r) s t has g =
      g_reads k r s t (g (K_of r) has)
      (λ i e. let there : i ≤ length tree.bodies = rw e (fit r has).first in (g (v_of i) there, g (a_of i) there, g (O_of i) there))
      (λ i e. let there : i ≤ length tree.bodies = rw e (fit r has).second in (g (v_of i) there, g (a_of i) there, g (O_of i) there))
  reads _ s t has g = absurd has

  listed : (m : Place) → Own k m → Among m (order k)
  listed (g_of r) h = let low = h.from in let high = h.to in among_upward (λ r. g_of r ∷ []) (g_of r) r 1 (k.rows + 1) low (omega arith) (inl refl)
  listed _ h = absurd h

  -- what is read is no table of this call
  reading : (s t : View) → ((m : Place) → Read tree k m → look m (record s { g = [] }) ≡ look m (record t { g = [] })) → Given s t
  reading s t h (v_of i) r = h (v_of i) r
  reading s t h (a_of i) r = h (a_of i) r
  reading s t h (O_of i) r = h (O_of i) r
  reading s t h (K_of q) r = h (K_of q) r
  reading s t h _ r = absurd r

  pub is_call : (extent : Extent) → k.rows ≤ extent.rows → Ascends extent.up → IsCall (call tree k extent)
  unfolding bias_step
  is_call extent e ascends = record {
    ascends = ascends;
    first = 1;
    end = k.rows + 1;
    climbs = climbs_upward rank (Own k) (λ r. g_of r ∷ []) (λ r. r) 1 (k.rows + 1) (omega arith) (λ r low high. (record { from = low; to = omega arith }, omega arith, omega arith));
    listed = listed;
    inside = inside extent e;
    apart = apart extent;
    reads = λ n s t h g l. reads n s t h (reading s t g);
    runs = λ w. run_upward (naming (call tree k extent)) (bias_step k) (λ r. g_of r ∷ []) 1 (k.rows + 1) (λ r w low. refl) w;
  }

  pub are_bias : (w : View) → ((m : Place) → Own k m → rule k m w ≡ Ok (look m w)) → AreBias k w
  are_bias w h = record { each_g = λ r has. h (g_of r) has }

  pub holds : (w : View) → AreBias k w → (m : Place) → Own k m → rule k m w ≡ Ok (look m w)
  holds w h (g_of r) has = h.each_g r has
  holds w h _ has = absurd has

  -- ---- what a call leaves
  pub bias_found : (w t : View) → IsSized w → k.rows ≤ w.rows → bias_of k w ≡ Ok t → AreBias k t
  bias_found w t sized e r =
      are_bias t (found _ _ (ordered (call tree k (extent_of w)) (is_call (extent_of w) e sized.extent.ascends)) w t (room_for w (extent_of w) sized refl) r).holds

  pub bias_refused : (w : View) (e : RowFault) → IsSized w → k.rows ≤ w.rows → bias_of k w ≡ Err e → IsBiasRefused tree k w e
  bias_refused w e sized is r =
      let h = refusal _ _ (ordered (call tree k (extent_of w)) (is_call (extent_of w) is sized.extent.ascends)) w e (room_for w (extent_of w) sized refl) r in
      record {
        values = h.reached;
        same = record {
          speed = λ i there. ap (λ (u : View). v_at u i) h.keeps;
          acceleration = λ i there. ap (λ (u : View). a_at u i) h.keeps;
          turn = λ i there. ap (λ (u : View). O_at u i) h.keeps;
          forces = λ r there. ap (λ (u : View). K_at u r) h.keeps;
        };
        first = h.first;
      }

  -- ---- one answer
  given : (u w : View) → SameMotions tree k u w → (m : Place) → Read tree k m → look m (record u { g = [] }) ≡ look m (record w { g = [] })
  given u w same (v_of i) r = same.speed i r
  given u w same (a_of i) r = same.acceleration i r
  given u w same (O_of i) r = same.turn i r
  given u w same (K_of q) r = same.forces q r
  given u w same _ r = absurd r

  abbrev some_extent : Extent
  some_extent = record { bodies = length tree.bodies; full = 0; up = []; rows = k.rows }

  some_call : IsCall (call tree k some_extent)
  some_call = is_call some_extent (omega arith) (λ c low high. absurd (omega arith))

  pub one_answer : BiasHasOneAnswer tree k
  one_answer = record {
    values = λ u w r same hu hw has.
        same_values _ _ (ordered (call tree k some_extent) some_call) u w (λ g. given u w same g.0 g.1) (holds u hu) (holds w hw) (g_of r) has;
    either = λ u w e same hu r.
        not_both _ _ (ordered (call tree k some_extent) some_call) u r.values e (λ g. given u w same g.0 g.1 ∙ given w r.values r.same g.0 g.1) (holds u hu) r.first;
    refusal = λ u w d e same q r.
        one_refusal _ _ (ordered (call tree k some_extent) some_call) q.values r.values d e
        (λ g. sym (given u q.values q.same g.0 g.1) ∙ given u w same g.0 g.1 ∙ given w r.values r.same g.0 g.1) q.first r.first;
  }
