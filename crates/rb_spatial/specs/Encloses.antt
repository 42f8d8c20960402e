-- What it is for a rule over intervals to enclose the rule at fractions.
-- for all that lie in x, what the rule f gives of them lies in r
pub record Encloses {A B X Y : Type 0} (in_x : A → X → Type 0) (in_r : B → Y → Type 0) (f : A → B) (x : X) (r : Y) : Type 0 where
  pub at : (a : A) → in_x a x → in_r (f a) r

-- the same of a rule of two arguments, of three and of four
pub record EnclosesTwo {A B C X Y Z : Type 0} (in_x : A → X → Type 0) (in_y : B → Y → Type 0) (in_r : C → Z → Type 0) (f : A → B → C) (x : X) (y : Y) (r : Z) : Type 0 where
  pub at : (a : A) (b : B) → in_x a x → in_y b y → in_r (f a b) r

pub record EnclosesThree {A B C D X Y Z W : Type 0} (in_x : A → X → Type 0) (in_y : B → Y → Type 0) (in_z : C → Z → Type 0) (in_r : D → W → Type 0) (f : A → B → C → D) (x : X) (y : Y) (z : Z) (r : W) : Type 0 where
  pub at : (a : A) (b : B) (c : C) → in_x a x → in_y b y → in_z c z → in_r (f a b c) r

pub record EnclosesFour {A B C D E X Y Z W V : Type 0} (in_x : A → X → Type 0) (in_y : B → Y → Type 0) (in_z : C → Z → Type 0) (in_w : D → W → Type 0) (in_r : E → V → Type 0) (f : A → B → C → D → E) (x : X) (y : Y) (z : Z) (w : W) (r : V) : Type 0 where
  pub at : (a : A) (b : B) (c : C) (d : D) → in_x a x → in_y b y → in_z c z → in_w d w → in_r (f a b c d) r
