-- What is known of a reader that gave a fault other than want of memory, and of a step of which only the fault counts.
use Rattle.std.proofs.Common.{◌≡◌, ◌⊎◌, inl, inr, Result, Ok, Err, refl, ap}
use Rattle.rb_result.proofs.Results.{fault}
use Rattle.rb_srdf.specs.declared.faults.SrdfFaultKind.{SrdfFaultKind}
use Rattle.rb_srdf.specs.Names.{checked}

pub not_memory : {K A X : Type 0} (memory kind : K) (read : Result A K) → (kind ≡ memory) ⊎ (read ≡ Err kind) → (fault {A = X} kind ≡ fault memory → ⊥) → read ≡ Err kind
not_memory memory kind read (inl is) other = absurd (other (ap Err is))
not_memory memory kind read (inr is) other = is

pub checked-ok : {A : Type 0} (step : Result A SrdfFaultKind) → Ok tt ≡ checked step → (x : A) × (step ≡ Ok x)
checked-ok (Ok x) h = (x, refl)
checked-ok (Err kind) h = absurd cc

pub checked-err : {A : Type 0} (step : Result A SrdfFaultKind) (kind : SrdfFaultKind) → Err kind ≡ checked step → step ≡ Err kind
checked-err (Ok x) kind h = absurd cc
checked-err (Err other) kind h = let same : other ≡ kind = cc in ap Err same

pub or_memory : {K A B : Type 0} (memory kind : K) (read : Result A K) (whole : Result B K) → (kind ≡ memory) ⊎ (read ≡ Err kind) → (read ≡ Err kind → whole ≡ Err kind) → (kind ≡ memory) ⊎ (whole ≡ Err kind)
or_memory memory kind read whole (inl is) then = inl is
or_memory memory kind read whole (inr is) then = inr (then is)
