-- Read `Model` first: the lines of a robot's model. `Laws` says that its text is exactly these lines.
pub mod Model
pub mod Laws
