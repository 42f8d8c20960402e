use Rattle.std.proofs.Common.{◌-◌, ◌++◌, ℕ, List, take, drop, refl, sym, ap, ◌∙◌, length-append}
use Rattle.rb_text.proofs.Rounding.{kept_cut, rest_cut}
use Rattle.rb_text.proofs.size.cut_digits.Goals as goal

pub returns-clause-kept : goal.returns-clause-kept
returns-clause-kept c =
    let whole = c.args.whole.now in
    let part = c.args.part.now in
    let kept = c.saturating_sub-kept.result in
    let count = c.saturating_sub-kept.ensures ∙ ap (λ (x : ℕ). x - c.args.cut) (sym (length-append whole part)) in
    ap (λ (x : List ℕ). x ++ c.split_at-2.result.0.now) c.split_at.ensures.front ∙ ap (λ (x : List ℕ). take c.min-whole_kept.result whole ++ x) c.split_at-2.ensures.front
    ∙ kept_cut whole part kept c.min-whole_kept.result _ c.min-whole_kept.ensures refl ∙ ap (λ (x : ℕ). take x (whole ++ part)) count

pub returns-clause-rest : goal.returns-clause-rest
returns-clause-rest c =
    let whole = c.args.whole.now in
    let part = c.args.part.now in
    let kept = c.saturating_sub-kept.result in
    let count = c.saturating_sub-kept.ensures ∙ ap (λ (x : ℕ). x - c.args.cut) (sym (length-append whole part)) in
    ap (λ (x : List ℕ). x ++ c.split_at-2.result.1.now) c.split_at.ensures.back ∙ ap (λ (x : List ℕ). drop c.min-whole_kept.result whole ++ x) c.split_at-2.ensures.back
    ∙ rest_cut whole part kept c.min-whole_kept.result _ c.min-whole_kept.ensures refl ∙ ap (λ (x : ℕ). drop x (whole ++ part)) count
