pub use Rattle.spec_control.specs.EndLife
