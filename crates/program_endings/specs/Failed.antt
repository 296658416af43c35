-- Which streams failed.
use Rattle.std.specs.Prelude.{Bool}

pub record Failed : Type 0 where
  pub input : Bool
  pub output : Bool
