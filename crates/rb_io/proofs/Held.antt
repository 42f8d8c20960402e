-- What names hold after a name was added.
use Rattle.std.proofs.Common.{◌≡◌, ◌≢◌, ◌∙◌, ℕ, Bool, true, false, List, [], ◌∷◌, Contains, string_bytes, refl, sym, suc, arith, add_comm, add-one}
use Rattle.std.specs.Str.{bytes_eq}
use Rattle.std.proofs.lemmas.Slice.Eq.{bytes_eq-Decides}
use Rattle.rb_io.specs.declared.mem_file.MemFile.{MemFile}
use Rattle.rb_io.specs.MemFile.{held_of, names_in, place_in}

pub held_of_added : (file : MemFile) (files : List MemFile) (name : List ℕ) → string_bytes file.name ≡ name → held_of (file ∷ files) name ≡ file.held.items
held_of_added file files name is =
    let same : bytes_eq (string_bytes file.name) name ≡ true = (bytes_eq-Decides (string_bytes file.name) name).1 is in
    rw same

pub held_of_others : (file : MemFile) (files : List MemFile) (name : List ℕ) → name ≢ string_bytes file.name → held_of (file ∷ files) name ≡ held_of files name
held_of_others file files name is =
    by_test (bytes_eq (string_bytes file.name) name) refl
  where
    by_test : (b : Bool) → bytes_eq (string_bytes file.name) name ≡ b → held_of (file ∷ files) name ≡ held_of files name
    by_test true same = absurd (is (sym ((bytes_eq-Decides (string_bytes file.name) name).0 same)))
    by_test false other = rw (other, add_comm 1 (place_in files name), add-one)

-- a name that was not added holds nothing
pub held_of_absent : (files : List MemFile) (name : List ℕ) → ¬ (Contains (names_in files) name) → held_of files name ≡ []
held_of_absent [] name absent = refl
held_of_absent (file ∷ files) name absent =
    held_of_others file files name (λ same. absent (0, omega arith, sym same))
    ∙ held_of_absent files name (λ (k, lt, is). absent (suc k, omega arith, is))
