use Rattle.std.proofs.Common.{arith}
use Rattle.ctl_moves.proofs.batch.Batch.push.Goals as goal

pub returns-clause-drawn : goal.returns-clause-drawn
returns-clause-drawn g c = c.push_back_reserved.ensures.items

pub returns-clause-joined : goal.returns-clause-joined
returns-clause-joined g c = c.note.ensures.joined

pub returns-clause-opened : goal.returns-clause-opened
returns-clause-opened g c = c.note.ensures.opened

pub returns-clause-room : goal.returns-clause-room
returns-clause-room g c = λ n fits. record {
  drawn = (let room = fits.drawn in let len = c.push_back_reserved.ensures.len in let capacity = c.push_back_reserved.ensures.capacity in omega (arith, room, len, capacity));
  notes = c.note.ensures.room n fits.notes;
}

pub note-requires : goal.note-requires
note-requires g c = record { room = c.requires.fits.notes }

pub push_back_reserved-requires : goal.push_back_reserved-requires
push_back_reserved-requires g c = let room = c.requires.fits.drawn in omega (arith, room)
