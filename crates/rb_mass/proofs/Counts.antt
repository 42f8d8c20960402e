-- Which names there are, their ranks, and that each has a place of its own.
use Rattle.std.proofs.Common.{◌≡◌, ℕ, zero, suc, ◌+◌, ◌-◌, ◌*◌, ◌<◌, ◌≤◌, ◌==◌, if◌then◌else◌, List, length, max, min, Bool, true, false, inl, inr, refl, ap, sym, ◌∙◌, arith}
use Rattle.std.proofs.lemmas.Bool.{cases_lt}
use Rattle.rb_joint.specs.Any.{kind_of}
use Rattle.rb_tree.specs.declared.robot.Body.{Body}
use Rattle.rb_tree.specs.Columns.{parent_at, full_at, full_count, first_full}
use Rattle.rb_tree.specs.Numbers.{joint_at}
use Rattle.rb_tree.specs.Robot.{Tree, HasBody, AreBodies}
use Rattle.rb_tree.proofs.ColumnLaws.{few_columns}
use Rattle.rb_tree.proofs.Spans.{full_within}
use Rattle.rb_work.specs.Path.{Ascends}
use Rattle.rb_work.specs.View.{Extent}
use Rattle.rb_work.specs.Place.{I_of, H_of, packed_of}
use Rattle.rb_work.proofs.PlaceLaws.{Inside}
use Rattle.rb_mass.specs.Entries.{HasJointColumn, HasEntry, above, met_columns}
use Rattle.rb_mass.specs.Table.{ups_of, HasPair}
use Rattle.rb_mass.specs.Mass.{Name, inertia, entry, carried, mass}
use Rattle.rb_mass.proofs.Ways.{full_is, full_rises, met_below, above_next, above_falls, none_met, length_ups, pair_on}

abbrev pub Known : Tree → Name → Type 0
Known tree (inertia i) = HasBody tree i
Known tree (entry i k n l) = HasEntry tree i k n l
Known tree (carried i k) = HasJointColumn tree i k
Known tree (mass c d) = HasPair tree c d

-- at most 256 bodies, six columns a joint and 64 columns in all
abbrev pub rank : Name → ℕ
rank (inertia i) = 256 - i
rank (entry i k n l) = 1000 + i * 9252 + k * 1542 + n * 6 + l
rank (carried i k) = 1000 + i * 9252 + k * 1542 + 1536
rank (mass c d) = 3000000 + c * 65 + d

-- a work with room for the robot
pub record HasRoom (tree : Tree) (extent : Extent) : Type 0 where
  pub bodies : extent.bodies ≡ length tree.bodies
  pub full : extent.full ≡ full_count tree.bodies
  pub up : extent.up ≡ ups_of tree
  pub ascends : Ascends extent.up

pub few_at : (bodies : List Body) (i : ℕ) → full_at bodies i ≤ 6
few_at bodies i = let e = full_is bodies i in let f = few_columns (kind_of (joint_at bodies i)) in omega (arith, e, f)

pub met_within : (bodies : List Body) (i k a : ℕ) → k < full_at bodies i → met_columns bodies i k a ≤ full_at bodies a
met_within bodies i k a h = go (a == i) refl
  where
    go : (b : Bool) → (a == i) ≡ b → (if b then k + 1 else full_at bodies a) ≤ full_at bodies a
    go true e = let same : a ≡ i = grind arith in let f : full_at bodies a ≡ full_at bodies i = ap (full_at bodies) same in omega (arith, f)
    go false e = omega arith

-- two columns of joints with one number are one
pub same_column : (bodies : List Body) (i k j m : ℕ) → 1 ≤ i → 1 ≤ j → k < full_at bodies i → m < full_at bodies j → first_full bodies i + k ≡ first_full bodies j + m → (i ≡ j) × (k ≡ m)
same_column bodies i k j m low from hk hm e =
    elim (cases_lt i j) [
      | inl l ↦ let r = full_rises bodies i j low l in absurd (omega (arith, r, e, hk))
      | inr g ↦ elim (cases_lt j i) [
        | inl l ↦ let r = full_rises bodies j i from l in absurd (omega (arith, r, e, hm))
        | inr h ↦ let s : i ≡ j = omega arith in let f : first_full bodies i ≡ first_full bodies j = ap (first_full bodies) s in (s, omega (arith, f, e))
      ]
    ]

module _ (tree : Tree) (kept : AreBodies tree.bodies) where
  -- the body of a pair's second column is there
  pub entry_body : (i k n l : ℕ) → HasEntry tree i k n l → HasBody tree (above tree i n)
  entry_body i k n l has =
      let low = has.column.body.from in
      let high = has.column.body.to in
      elim (cases_lt 0 (above tree i n)) [
        | inl h ↦ let r = above_falls tree kept i n h in record { from = h; to = omega (arith, r) }
        | inr g ↦
            let z : above tree i n ≡ 0 = omega arith in
            let m : met_columns tree.bodies i k (above tree i n) ≡ 0 = ap (met_columns tree.bodies i k) z ∙ none_met tree kept i k low in
            let b = has.below in
            absurd (omega (arith, m, b))
      ]

  pub entry_low : (i k n l : ℕ) → HasEntry tree i k n l → above tree i n ≤ i
  entry_low i k n l has = let there = entry_body i k n l has in let from = there.from in let r = above_falls tree kept i n from in omega (arith, r)

  pub entry_below : (i k n l : ℕ) → HasEntry tree i k n l → l < full_at tree.bodies (above tree i n)
  entry_below i k n l has = let m = met_within tree.bodies i k (above tree i n) has.column.below in let b = has.below in omega (arith, m, b)

  pub first_number : (i k : ℕ) → HasJointColumn tree i k → first_full tree.bodies i + k ≤ full_count tree.bodies
  first_number i k has = let w = full_within tree i has.body in let b = has.below in omega (arith, w, b)

  pub second_number : (i k n l : ℕ) → HasEntry tree i k n l → first_full tree.bodies (above tree i n) + l ≤ first_full tree.bodies i + k
  second_number i k n l has = met_below tree.bodies i k (above tree i n) l (entry_body i k n l has).from (entry_low i k n l has) has.below

  -- the bodies above a body are met once
  lower : (i n o : ℕ) → n < o → 1 ≤ above tree i o → above tree i o < above tree i n
  lower i n zero h low = absurd (omega arith)
  lower i n (suc o) h low =
      let s : suc o ≡ o + 1 = omega arith in
      let next : above tree i (suc o) ≡ parent_at tree.bodies (above tree i o) = ap (above tree i) s ∙ above_next tree kept i o in
      elim (cases_lt 0 (above tree i o)) [
        | inl l ↦
            let p : parent_at tree.bodies (above tree i o) < above tree i o = kept.parents (above tree i o) l in
            elim (cases_lt n o) [
              | inl m ↦ let r = lower i n o m l in omega (arith, next, p, r)
              | inr g ↦ let same : o ≡ n = omega arith in let q : above tree i o ≡ above tree i n = ap (above tree i) same in omega (arith, next, p, q)
            ]
        | inr g ↦
            let z : above tree i o ≡ 0 = omega arith in
            let q : parent_at tree.bodies (above tree i o) ≡ 0 = ap (parent_at tree.bodies) z in
            absurd (omega (arith, next, q, low))
      ]

  pub met_once : (i n o : ℕ) → 1 ≤ above tree i n → above tree i n ≡ above tree i o → n ≡ o
  met_once i n o low e =
      elim (cases_lt n o) [
        | inl l ↦ let r = lower i n o l (omega (arith, e, low)) in absurd (omega (arith, r, e))
        | inr g ↦ elim (cases_lt o n) [ inl l ↦ let r = lower i o n l low in absurd (omega (arith, r, e)) | inr h ↦ omega arith ]
      ]

  -- two pairs with one place have one rank
  pub same_entry : (i k n l j m o q : ℕ) → HasEntry tree i k n l → HasEntry tree j m o q → first_full tree.bodies i + k ≡ first_full tree.bodies j + m
      → first_full tree.bodies (above tree i n) + l ≡ first_full tree.bodies (above tree j o) + q → rank (entry i k n l) ≡ rank (entry j m o q)
  same_entry i k n l j m o q has have first second =
      let a = same_column tree.bodies i k j m has.column.body.from have.column.body.from has.column.below have.column.below first in
      let b = same_column tree.bodies (above tree i n) l (above tree j o) q (entry_body i k n l has).from (entry_body j m o q have).from (entry_below i k n l has) (entry_below j m o q have) second in
      let e : above tree j o ≡ above tree i o = ap (λ (x : ℕ). above tree x o) (sym a.0) in
      let c : n ≡ o = met_once i n o (entry_body i k n l has).from (b.0 ∙ e) in
      let a0 = a.0 in
      let a1 = a.1 in
      let b1 = b.1 in
      omega arith

  module _ (extent : Extent) (room : HasRoom tree extent) where
    pub inside_inertia : (i : ℕ) → HasBody tree i → Inside extent (I_of i)
    inside_inertia i has = let to = has.to in let e = room.bodies in omega (arith, e, to)

    pub inside_entry : (i k n l : ℕ) → HasEntry tree i k n l → Inside extent (H_of (first_full tree.bodies i + k) (first_full tree.bodies (above tree i n) + l))
    inside_entry i k n l has =
        let a = first_number i k has.column in
        let b = second_number i k n l has in
        let e = room.full in
        (omega (arith, a, e), omega (arith, a, b, e))

    pub inside_mass : (c d : ℕ) → HasPair tree c d → Inside extent (packed_of (max c d) (min c d))
    inside_mass c d has =
        let up = room.up in
        let long = length_ups tree in
        let to = has.to in
        let order = has.order in
        (rw up (omega (arith, long, to, order)), rw up (pair_on (ups_of tree) c d order has.on))
