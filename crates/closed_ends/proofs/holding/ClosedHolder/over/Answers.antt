use Rattle.std.proofs.Common.{refl}
use Rattle.closed_ends.proofs.DoneLemmas.{done_same}
use Rattle.std.proofs.Math.Logic.{∥∥₁_map}
use Rattle.closed_ends.proofs.SoundLemmas.{leaves_on, leaves_none}
use Rattle.closed_ends.proofs.ComeLemmas.{come_still}
use Rattle.closed_ends.proofs.holding.ClosedHolder.over.Goals as goal

pub invariant_of-self : goal.invariant_of-self
invariant_of-self g c =
    record {
      indexed = c.args.self.now.indexed;
      sound = c.args.self.now.sound;
      others = λ s t b. leaves_on g.P.Pipes.known s c.args.self.now.pipes c.args.self.now.pipes t c.args.self.now.closed _ (c.args.self.now.others s t b)
          (leaves_none g.P.Pipes.known c.args.self.now.pipes c.args.self.now.closed _ refl refl refl);
      done = λ s t b. ∥∥₁_map (c.args.self.now.done s t b) (λ h. done_same g.P.Pipes.known s t c.args.self.now.closed _ c.args.self.now.did.items c.args.self.now.pipes refl refl refl refl h);
      came = λ s t b. ∥∥₁_map (c.args.self.now.came s t b) (λ h. come_still g.P.Pipes.known g.F.Stretch.brings t c.args.self.now.closed _ refl refl refl h);
    }
