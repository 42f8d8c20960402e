-- Motions, forces, places, frames and inertias over any numbers, and those over two kinds of numbers that are related entry by entry.
-- Featherstone, Rigid Body Dynamics Algorithms, chapter 2; the linear part stands first.
use Rattle.std.specs.Prelude.{ℕ, ◌-◌, nat_lt, if◌then◌else◌}
use Rattle.rb_frac.specs.Ops.{V3}
use Rattle.rb_frac.specs.Tables.{Table, Symmetric, Vectors, Tables, Symmetrics, transpose, full, component, row}

-- a vector of six: the linear part and the angular part
pub record Spatial (A : Type 0) : Type 0 where
  pub lin : V3 A
  pub ang : V3 A

-- a speed or an acceleration
abbrev pub Motion : Type 0 → Type 0
Motion A = Spatial A

-- a force and a moment
abbrev pub Force : Type 0 → Type 0
Force A = Spatial A

-- where a body stands to its parent: the table that turns the parent's vectors into the body's, and the body's origin in the parent
pub record Place (A : Type 0) : Type 0 where
  pub e : Table A
  pub r : V3 A

-- a frame in the one that it stands in: its rotation and its origin
pub record Frame (A : Type 0) : Type 0 where
  pub rot : Table A
  pub at : V3 A

-- the mass of a body, its first moment, and its rotational inertia about the origin
pub record BodyInertia (A : Type 0) : Type 0 where
  pub mass : A
  pub first : V3 A
  pub six : Symmetric A

-- a symmetric table of six rows: a beside b, and under them the transpose of b beside c
pub record Inertia (A : Type 0) : Type 0 where
  pub a : Symmetric A
  pub b : Table A
  pub c : Symmetric A

-- an angle by its sine and cosine, which need not lie on one circle
pub record SineCosine (A : Type 0) : Type 0 where
  pub sin : A
  pub cos : A

-- the vector part first
pub record Quaternion (A : Type 0) : Type 0 where
  pub x : A
  pub y : A
  pub z : A
  pub w : A

-- ---- entries, from 0
unfoldable pub coordinate : {A : Type 0} → Spatial A → ℕ → A
coordinate m k = if nat_lt k 3 then component m.lin k else component m.ang (k - 3)

-- in row r and column c
unfoldable pub entry : {A : Type 0} → Inertia A → ℕ → ℕ → A
entry i r c =
    if nat_lt r 3
    then (if nat_lt c 3 then component (row (full i.a) r) c else component (row i.b r) (c - 3))
    else (if nat_lt c 3 then component (row (transpose i.b) (r - 3)) c else component (row (full i.c) (r - 3)) (c - 3))

-- ---- related entry by entry
pub record Spatials {A B : Type 0} (rel : A → B → Type 0) (u : Spatial A) (v : Spatial B) : Type 0 where
  pub lin : Vectors rel u.lin v.lin
  pub ang : Vectors rel u.ang v.ang

abbrev pub Motions : {A B : Type 0} → (A → B → Type 0) → Motion A → Motion B → Type 0
Motions rel = Spatials rel

abbrev pub Forces : {A B : Type 0} → (A → B → Type 0) → Force A → Force B → Type 0
Forces rel = Spatials rel

pub record Places {A B : Type 0} (rel : A → B → Type 0) (u : Place A) (v : Place B) : Type 0 where
  pub e : Tables rel u.e v.e
  pub r : Vectors rel u.r v.r

pub record Frames {A B : Type 0} (rel : A → B → Type 0) (u : Frame A) (v : Frame B) : Type 0 where
  pub rot : Tables rel u.rot v.rot
  pub at : Vectors rel u.at v.at

pub record BodyInertias {A B : Type 0} (rel : A → B → Type 0) (u : BodyInertia A) (v : BodyInertia B) : Type 0 where
  pub mass : rel u.mass v.mass
  pub first : Vectors rel u.first v.first
  pub six : Symmetrics rel u.six v.six

pub record Inertias {A B : Type 0} (rel : A → B → Type 0) (u : Inertia A) (v : Inertia B) : Type 0 where
  pub a : Symmetrics rel u.a v.a
  pub b : Tables rel u.b v.b
  pub c : Symmetrics rel u.c v.c

pub record SineCosines {A B : Type 0} (rel : A → B → Type 0) (u : SineCosine A) (v : SineCosine B) : Type 0 where
  pub sin : rel u.sin v.sin
  pub cos : rel u.cos v.cos

pub record Quaternions {A B : Type 0} (rel : A → B → Type 0) (u : Quaternion A) (v : Quaternion B) : Type 0 where
  pub x : rel u.x v.x
  pub y : rel u.y v.y
  pub z : rel u.z v.z
  pub w : rel u.w v.w
