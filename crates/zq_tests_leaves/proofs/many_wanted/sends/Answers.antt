use Rattle.std.proofs.Common.{◌≡◌, Bool, true, false, not, refl}
use Rattle.msg_pipe.specs.contracts.plain_pipes.PlainPipesPipes.TheImpl.{ghosts}
use Rattle.sock_core.proofs.FormLemmas.{sound_of}
use Rattle.zq_tests_leaves.proofs.many_wanted.sends.Goals as goal

-- what isn't not open is open
open_is : (b : Bool) → not b ≡ false → b ≡ true
open_is true e = refl
open_is false e = absurd (cc e)

pub sends_as_many-sends-requires : goal.sends_as_many-sends-requires
sends_as_many-sends-requires c = record {
  whole = record {
    sound = sound_of ghosts.known c.args.socket.pipes c.args.socket.core.ends.rows.items c.args.socket.core.ends.places.items c.args.socket.sound;
    peers = c.args.socket.peers (open_is c.args.socket.core.is_open c.if-not-socket.false);
    flagged = c.args.socket.flagged;
  };
}
