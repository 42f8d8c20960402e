-- Faults of kinds at places.
use Rattle.std.proofs.Common.{◌≡◌, ◌⊎◌, inl, inr, ℕ, refl}
use Rattle.rb_result.proofs.Placing.{IsPlacing}
use Rattle.rb_urdf.specs.declared.faults.UrdfFaultKind.{UrdfFaultKind}
use Rattle.rb_urdf.specs.declared.faults.UrdfFaultKind.TheVariants.{Memory}
use Rattle.rb_urdf.specs.Faults.{no_memory, fault_at, placed_kind}

pub is_placing : IsPlacing fault_at placed_kind Memory no_memory
is_placing = record { memory_is = λ place. refl; told_is = told }
  where
    told : (kind : UrdfFaultKind) (place : ℕ) → (placed_kind kind place ≡ no_memory) ⊎ (placed_kind kind place ≡ fault_at kind place)
    told Memory place = inl refl
    told _ place = inr refl
