use Rattle.std.proofs.Common.{◌-◌, ◌++◌, ◌∙◌, ℕ, List, rules, arith, length, ap}
use Rattle.std.proofs.lemmas.List.{length-replicate}
use Rattle.rb_text.proofs.Ends.{few_bytes, padded, rest_of_zeros}
use Rattle.rb_text.proofs.buffer.Out.put_part.Goals as goal

pub slice_bounds-put-count : goal.slice_bounds-put-count
slice_bounds-put-count c =
    let few = few_bytes _ c.args.units (c.as_bytes-digits.ensures.value ∙ c.format.ensures.text) c.requires.digits in
    let long = ap length c.as_slice-zeros.ensures in
    omega (arith, few, long)

pub slice_bounds-put-start : goal.slice_bounds-put-start
slice_bounds-put-start c =
    let few = few_bytes _ c.args.units (c.as_bytes-digits.ensures.value ∙ c.format.ensures.text) c.requires.digits in
    let long = ap length c.as_slice-zeros.ensures in
    search (rules, few, long)

pub put-requires-2 : goal.put-requires-2
put-requires-2 c =
    let few = few_bytes _ c.args.units (c.as_bytes-digits.ensures.value ∙ c.format.ensures.text) c.requires.digits in
    omega (arith, ap length (rest_of_zeros _ _ c.as_slice-zeros.ensures few), length-replicate {A = ℕ} (12 - length c.as_bytes-digits.result.now) 48)

pub returns-clause-bytes : goal.returns-clause-bytes
returns-clause-bytes c =
    let text = c.as_bytes-digits.ensures.value ∙ c.format.ensures.text in
    let few = few_bytes _ c.args.units text c.requires.digits in
    padded _ _ c.args.self.now.bytes _ c.args.units text c.requires.digits (rest_of_zeros _ _ c.as_slice-zeros.ensures few)
    (c.put-2.ensures.bytes ∙ ap (λ (x : List ℕ). x ++ c.as_bytes-digits.result.now) c.put.ensures.bytes)

pub returns-clause-spare : goal.returns-clause-spare
returns-clause-spare c =
    let few = few_bytes _ c.args.units (c.as_bytes-digits.ensures.value ∙ c.format.ensures.text) c.requires.digits in
    omega (arith, ap length (rest_of_zeros _ _ c.as_slice-zeros.ensures few), length-replicate {A = ℕ} (12 - length c.as_bytes-digits.result.now) 48)
