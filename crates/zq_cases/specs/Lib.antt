pub use Rattle.zq_world.specs.Played
pub mod NoCore
