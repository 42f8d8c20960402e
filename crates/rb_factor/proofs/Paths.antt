-- The path of a column as a list, and its ancestors.
use Rattle.std.proofs.Common.{◌≡◌, ◌⊎◌, inl, inr, ℕ, zero, suc, ◌<◌, ◌≤◌, List, length, sym, subst, arith}
use Rattle.std.proofs.lemmas.Bool.{cases_lt}
use Rattle.rb_sweep.specs.Sweep.{Among}
use Rattle.rb_work.specs.Path.{above, Ascends, IsOn}
use Rattle.rb_work.proofs.PathLaws.{path_next, path_done, above_below, on_self, on_above, on_next, on_least, on_most}
use Rattle.rb_elimination.specs.Paths.{IsColumn, IsRegular, IsAncestor}
use Rattle.rb_elimination.specs.Paths as P

module _ (up : List ℕ) (ascends : Ascends up) where
  pub regular : IsRegular (length up) (above up)
  regular c h = above_below up ascends c h.from

  -- the next one above a column is on its path, if there is one
  pub on_first : (c d : ℕ) → 1 ≤ c → d ≡ above up c → 1 ≤ d → IsOn up c d
  on_first c d l e k =
      let m : 1 ≤ above up c = omega (arith, e, k) in
      subst (λ b. IsOn up c b) (sym e) (on_above up ascends c (above up c) l (on_self up ascends (above up c) m))

  pub on_further : (c e d : ℕ) → IsOn up c e → d ≡ above up e → 1 ≤ d → IsOn up c d
  on_further c e d h q k = let m : 1 ≤ above up e = omega (arith, q, k) in subst (λ b. IsOn up c b) (sym q) (on_next up ascends c e h m)

  -- a path has the column itself first, and then the path of the one above it
  pub on_cases : (c d : ℕ) → 1 ≤ c → IsOn up c d → (d ≡ c) ⊎ IsOn up (above up c) d
  on_cases c d l h = subst (λ ks. Among d ks) (path_next up ascends c l) h

  pub on_none : (d : ℕ) → IsOn up 0 d → ⊥
  on_none d h = subst (λ ks. Among d ks) (path_done up) h

  -- what is on the path of one that is on a path is on it
  pub on_trans : (c d e : ℕ) → IsOn up c d → IsOn up d e → IsOn up c e
  on_trans c d e h k = within c c (omega arith) h
    where
      within : (n b : ℕ) → b ≤ n → IsOn up b d → IsOn up b e
      within n zero l i = absurd (on_none d i)
      within zero (suc b) l i = absurd (omega arith)
      within (suc n) (suc b) l i =
          let m : above up (suc b) < suc b = above_below up ascends (suc b) (omega arith) in
          elim (on_cases (suc b) d (omega arith) i) [
            | inl q ↦ subst (λ a. IsOn up a e) q k
            | inr j ↦ on_above up ascends (suc b) e (omega arith) (within n (above up (suc b)) (omega arith) j)
          ]

  -- ---- ancestors
  pub listed_ancestor : (c d : ℕ) → 1 ≤ c → IsAncestor (above up) c d → IsOn up (above up c) d
  listed_ancestor c d l (IsAncestor.next k) = on_self up ascends (above up c) k
  listed_ancestor c d l (IsAncestor.further k a) = on_above up ascends (above up c) d k (listed_ancestor (above up c) d k a)

  pub listed_on : (c d : ℕ) → 1 ≤ c → P.IsOn (above up) c d → IsOn up c d
  listed_on c d l (inl q) = subst (λ b. IsOn up c b) q (on_self up ascends c l)
  listed_on c d l (inr a) = on_above up ascends c d l (listed_ancestor c d l a)

  pub on_listed : (c d : ℕ) → IsOn up c d → P.IsOn (above up) c d
  on_listed c d h = within c c (omega arith) h
    where
      within : (n b : ℕ) → b ≤ n → IsOn up b d → P.IsOn (above up) b d
      within n zero l i = absurd (on_none d i)
      within zero (suc b) l i = absurd (omega arith)
      within (suc n) (suc b) l i =
          let m : above up (suc b) < suc b = above_below up ascends (suc b) (omega arith) in
          elim (on_cases (suc b) d (omega arith) i) [
            | inl q ↦ inl (sym q)
            | inr j ↦
                elim (cases_lt 0 (above up (suc b))) [
                  | inl k ↦ elim (within n (above up (suc b)) (omega arith) j) [
                    | inl q ↦ inr (subst (λ a. IsAncestor (above up) (suc b) a) q (IsAncestor.next k))
                    | inr a ↦ inr (IsAncestor.further k a)
                  ]
                  | inr g ↦ let z : above up (suc b) ≡ 0 = omega arith in absurd (on_none d (subst (λ a. IsOn up a d) z j))
                ]
          ]

  pub ancestor_listed : (c d : ℕ) → 1 ≤ c → IsOn up (above up c) d → IsAncestor (above up) c d
  ancestor_listed c d l h =
      let least : 1 ≤ d = on_least up ascends (above up c) d h in
      let most : d ≤ above up c = on_most up ascends (above up c) d h in
      let k : 1 ≤ above up c = omega arith in
      elim (on_listed (above up c) d h) [
        | inl q ↦ subst (λ a. IsAncestor (above up) c a) q (IsAncestor.next k)
        | inr a ↦ IsAncestor.further k a
      ]

  pub ancestor_least : (c d : ℕ) → 1 ≤ c → IsAncestor (above up) c d → 1 ≤ d
  ancestor_least c d l a = on_least up ascends (above up c) d (listed_ancestor c d l a)

  pub ancestor_less : (c d : ℕ) → 1 ≤ c → IsAncestor (above up) c d → d < c
  ancestor_less c d l a =
      let most : d ≤ above up c = on_most up ascends (above up c) d (listed_ancestor c d l a) in
      let m : above up c < c = above_below up ascends c l in
      omega arith
