-- The names of entries and columns: a joint of one has the joint's name, and those of others the joint's name, a point and a suffix.
use Rattle.std.specs.Prelude.{◌≡◌, ◌⊎◌, ℕ, List, [], ◌∷◌, ◌++◌, map, codes}
use Rattle.std.specs.List.{Any}
use Rattle.rb_flat.specs.Joint as Kinds
use Rattle.rb_flat.specs.Joint.{Kind}

-- what comes behind the joint's name, with the point: of each entry of the position, and of each column
abbrev pub entry_suffixes : Kind → List (List ℕ)
entry_suffixes Kinds.Fixed = []
entry_suffixes Kinds.Revolute = [] ∷ []
entry_suffixes Kinds.Continuous = codes ".cos" ∷ codes ".sin" ∷ []
entry_suffixes Kinds.Prismatic = [] ∷ []
entry_suffixes Kinds.Planar = codes ".x" ∷ codes ".y" ∷ codes ".cos" ∷ codes ".sin" ∷ []
entry_suffixes Kinds.Free = codes ".x" ∷ codes ".y" ∷ codes ".z" ∷ codes ".qx" ∷ codes ".qy" ∷ codes ".qz" ∷ codes ".qw" ∷ []

abbrev pub column_suffixes : Kind → List (List ℕ)
column_suffixes Kinds.Fixed = []
column_suffixes Kinds.Revolute = [] ∷ []
column_suffixes Kinds.Continuous = [] ∷ []
column_suffixes Kinds.Prismatic = [] ∷ []
column_suffixes Kinds.Planar = codes ".vx" ∷ codes ".vy" ∷ codes ".wz" ∷ []
column_suffixes Kinds.Free = codes ".vx" ∷ codes ".vy" ∷ codes ".vz" ∷ codes ".wx" ∷ codes ".wy" ∷ codes ".wz" ∷ []

abbrev pub names_by : List ℕ → List (List ℕ) → List (List ℕ)
names_by name suffixes = map (λ suffix. name ++ suffix) suffixes

-- the names of the entries and of the columns of a joint of this kind and name
abbrev pub entry_names : Kind → List ℕ → List (List ℕ)
entry_names kind name = names_by name (entry_suffixes kind)

abbrev pub column_names : Kind → List ℕ → List (List ℕ)
column_names kind name = names_by name (column_suffixes kind)

-- some name stands in both lists
abbrev pub HaveCommon : List (List ℕ) → List (List ℕ) → Type 0
HaveCommon a b = Any (λ x. Any (λ y. x ≡ y) b) a

-- two joints have a name of entries in common, or of columns
abbrev pub ShareName : Kind → List ℕ → Kind → List ℕ → Type 0
ShareName kind name other_kind other = HaveCommon (entry_names kind name) (entry_names other_kind other) ⊎ HaveCommon (column_names kind name) (column_names other_kind other)
