-- What holds of columns and their ancestors.
use Rattle.std.proofs.Common.{◌≡◌, ◌⊎◌, inl, inr, ℕ, zero, suc, ◌<◌, ◌≤◌, refl, subst, arith}
use Rattle.std.proofs.lemmas.Bool.{cases_lt}
use native.Mathlib.Decide.{ℕ_discrete}
use Rattle.rb_elimination.specs.Paths.{IsColumn, IsRegular, IsAncestor, IsOn}

pub trans : (up : ℕ → ℕ) (c d e : ℕ) → IsAncestor up c d → IsAncestor up d e → IsAncestor up c e
trans up c d e (IsAncestor.next l) b = IsAncestor.further l b
trans up c d e (IsAncestor.further l a) b = IsAncestor.further l (trans up (up c) d e a b)

-- there is a column above one with an ancestor
pub has_above : (up : ℕ → ℕ) (c d : ℕ) → IsAncestor up c d → 1 ≤ up c
has_above up c d (IsAncestor.next l) = l
has_above up c d (IsAncestor.further l a) = l

-- an ancestor is on the path of the column above
pub on_above : (up : ℕ → ℕ) (c d : ℕ) → IsAncestor up c d → IsOn up (up c) d
on_above up c d (IsAncestor.next l) = inl refl
on_above up c d (IsAncestor.further l a) = inr a

-- of two ancestors of a column one is on the path of the other
pub meets : (up : ℕ → ℕ) (c d e : ℕ) → IsAncestor up c d → IsAncestor up c e → IsOn up d e ⊎ IsOn up e d
meets up c d e (IsAncestor.next l) b = inl (on_above up c e b)
meets up c d e (IsAncestor.further l a) b =
    elim (on_above up c e b) [
      | inl q ↦ inr (inr (subst (λ k. IsAncestor up k d) q a))
      | inr r ↦ meets up (up c) d e a r
    ]

pub on_meets : (up : ℕ → ℕ) (c d e : ℕ) → IsOn up c d → IsOn up c e → IsOn up d e ⊎ IsOn up e d
on_meets up c d e (inl q) k = inl (subst (λ t. IsOn up t e) q k)
on_meets up c d e (inr a) (inl q) = inr (inr (subst (λ t. IsAncestor up t d) q a))
on_meets up c d e (inr a) (inr b) = meets up c d e a b

-- what is on the path of an ancestor is an ancestor
pub ancestor_on : (up : ℕ → ℕ) (c d e : ℕ) → IsAncestor up c d → IsOn up d e → IsAncestor up c e
ancestor_on up c d e a (inl q) = subst (λ k. IsAncestor up c k) q a
ancestor_on up c d e a (inr b) = trans up c d e a b

-- the column above an ancestor is one too, if there is one
pub above_ancestor : (up : ℕ → ℕ) (c d : ℕ) → IsAncestor up c d → 1 ≤ up d → IsAncestor up c (up d)
above_ancestor up c d a l = trans up c d (up d) a (IsAncestor.next l)

module _ (n : ℕ) (up : ℕ → ℕ) (regular : IsRegular n up) where
  pub below : (c d : ℕ) → IsAncestor up c d → IsColumn n c → IsColumn n d × (d < c)
  below c d (IsAncestor.next l) h =
      let b : up c < c = regular c h in
      let t : c ≤ n = h.to in
      (record { from = l; to = omega arith }, b)
  below c d (IsAncestor.further l a) h =
      let b : up c < c = regular c h in
      let t : c ≤ n = h.to in
      let r : IsColumn n d × (d < up c) = below (up c) d a (record { from = l; to = omega arith }) in
      (r.0, omega (arith, r.1))

  pub column_of : (c d : ℕ) → IsColumn n c → IsAncestor up c d → IsColumn n d
  column_of c d h a = (below c d a h).0

  pub lower_of : (c d : ℕ) → IsColumn n c → IsAncestor up c d → d < c
  lower_of c d h a = (below c d a h).1

  pub column_on : (c d : ℕ) → IsColumn n c → IsOn up c d → IsColumn n d
  column_on c d h (inl q) = subst (λ k. IsColumn n k) q h
  column_on c d h (inr a) = column_of c d h a

  pub lower_on : (c d : ℕ) → IsColumn n c → IsOn up c d → d ≤ c
  lower_on c d h (inl q) = omega (arith, q)
  lower_on c d h (inr a) = let l : d < c = lower_of c d h a in omega arith

  -- what stands above a column is one, or 0
  pub column_above : (c : ℕ) → IsColumn n c → 1 ≤ up c → IsColumn n (up c)
  column_above c h l = column_of c (up c) h (IsAncestor.next l)

  pub within_above : (c d : ℕ) → IsColumn n c → IsAncestor up c d → d ≤ up c
  within_above c d h a = lower_on (up c) d (column_above c h (has_above up c d a)) (on_above up c d a)

  -- no column below c is on the path of one further up
  pub not_on : (c d : ℕ) → IsColumn n c → c < d → ¬ IsOn up c d
  not_on c d h l o = let g : d ≤ c = lower_on c d h o in absurd (omega arith)

  -- no ancestor stands between another and the column above it
  pub no_gap : (c d e : ℕ) → IsColumn n c → IsAncestor up c e → IsAncestor up c d → d < e → d ≤ up e
  no_gap c d e h b a l =
      elim (meets up c d e a b) [
        | inl o ↦ absurd (not_on d e (column_of c d h a) l o)
        | inr o ↦ elim o [
          | inl q ↦ absurd (omega (arith, q))
          | inr r ↦ within_above e d (column_of c e h b) r
        ]
      ]

  decide_step : (c d : ℕ) → IsColumn n c → (1 ≤ up c → Dec (IsAncestor up (up c) d)) → Dec (IsAncestor up c d)
  decide_step c d h next = go (cases_lt 0 (up c))
    where
      choose : (l : 1 ≤ up c) → Dec (up c ≡ d) → Dec (IsAncestor up (up c) d) → Dec (IsAncestor up c d)
      choose l (yes p) r = yes (subst (λ k. IsAncestor up c k) p (IsAncestor.next l))
      choose l (no q) (yes a) = yes (IsAncestor.further l a)
      choose l (no q) (no m) = no (λ a. elim (on_above up c d a) [ inl p ↦ q p | inr b ↦ m b ])

      go : (0 < up c) ⊎ (up c ≤ 0) → Dec (IsAncestor up c d)
      go (inl l) = choose l (ℕ_discrete (up c) d) (next l)
      go (inr g) = no (λ a. let l : 1 ≤ up c = has_above up c d a in absurd (omega arith))

  decide_within : (k c d : ℕ) → c ≤ k → IsColumn n c → Dec (IsAncestor up c d)
  decide_within zero c d l h = absurd (omega (arith, h.from))
  decide_within (suc k) c d l h =
      let b : up c < c = regular c h in
      decide_step c d h (λ f. decide_within k (up c) d (omega arith) (column_above c h f))

  pub is_ancestor : (c d : ℕ) → IsColumn n c → Dec (IsAncestor up c d)
  is_ancestor c d h = decide_within c c d (omega arith) h

  pub is_on : (c d : ℕ) → IsColumn n c → Dec (IsOn up c d)
  is_on c d h = go (ℕ_discrete c d) (is_ancestor c d h)
    where
      go : Dec (c ≡ d) → Dec (IsAncestor up c d) → Dec (IsOn up c d)
      go (yes q) r = yes (inl q)
      go (no m) (yes a) = yes (inr a)
      go (no m) (no k) = no (λ o. elim o [ inl q ↦ m q | inr a ↦ k a ])

  pub is_column : (c : ℕ) → Dec (IsColumn n c)
  is_column c = go (cases_lt 0 c) (cases_lt n c)
    where
      go : (0 < c) ⊎ (c ≤ 0) → (n < c) ⊎ (c ≤ n) → Dec (IsColumn n c)
      go (inl l) (inr g) = yes (record { from = l; to = g })
      go (inl l) (inl k) = no (λ h. absurd (omega (arith, h.to)))
      go (inr g) r = no (λ h. absurd (omega (arith, h.from)))

  pub is_known : (c d : ℕ) → Dec (IsColumn n c × IsAncestor up c d)
  is_known c d = go (is_column c)
    where
      go : Dec (IsColumn n c) → Dec (IsColumn n c × IsAncestor up c d)
      go (no m) = no (λ p. m p.0)
      go (yes h) = elim (is_ancestor c d h) [ yes a ↦ yes (h, a) | no m ↦ no (λ p. m p.1) ]
