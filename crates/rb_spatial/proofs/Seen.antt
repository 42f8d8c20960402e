-- What holds of values as they are kept holds of them as they are seen.
use Rattle.std.proofs.Common.{◌≡◌, subst}

pub seen_two : {A B : Type 0} (P : A → B → Type 0) {a a' : A} {b b' : B} → a ≡ a' → b ≡ b' → P a b → P a' b'
seen_two P {a' = a'} {b = b} e f h = subst (P a') f (subst (λ x. P x b) e h)

pub seen_four : {A B C D : Type 0} (P : A → B → C → D → Type 0) {a a' : A} {b b' : B} {c c' : C} {d d' : D} → a ≡ a' → b ≡ b' → c ≡ c' → d ≡ d' → P a b c d → P a' b' c' d'
seen_four P {a' = a'} {b' = b'} {c = c} {d = d} e f g h k = seen_two (P a' b') g h (seen_two (λ x y. P x y c d) e f k)
