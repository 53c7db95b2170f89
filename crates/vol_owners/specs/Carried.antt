-- Runs that carry a graph. They are defined with the frames within which they stay.
pub use Rattle.vol_image.specs.Run.{Carries}
