-- The mailboxes of a context, and the letters in them.
use Rattle.std.specs.Prelude.{◌≡◌, ◌≢◌, ℕ, List, ◌∷◌, true, map, length, slice_index_or, slice_set, ◌+◌, ◌*◌, ◌≤◌, ◌++◌, All, None, Bool, false}
use Rattle.mailbox.specs.Mail.{Mail, no_mail}
use Rattle.ctl_state.specs.Bits.{bit_in, some_bit}
use Rattle.spec_control.specs.declared.letter.Letter.{Letter}
use Rattle.spec_control.specs.declared.letter.Word.{Word}
use Rattle.spec_control.specs.declared.letter.Word.TheVariants.{Own, Plug, TermReq, Term, TermAck, PipeBind, PipeTerm, PipeTermAck, Stop, Reap}
use Rattle.ctl_state.specs.declared.command.Command.{Command}

-- an object is told to end or is stopped, or a child of it has ended
abbrev pub tells_object : Word → Bool
tells_object (Own child) = false
tells_object (Plug end) = false
tells_object (TermReq child) = false
tells_object Term = true
tells_object (TermAck child) = true
tells_object (PipeBind e peer) = false
tells_object (PipeTerm e) = false
tells_object (PipeTermAck e) = false
tells_object Stop = true
tells_object (Reap socket) = false

module _ {L : Type 0} where
  -- a mailbox, by its number
  abbrev pub mail_at : List (Mail (Command L)) → ℕ → Mail (Command L)
  mail_at boxes k = slice_index_or boxes k no_mail

  -- the mailboxes with this one in place of one of them
  abbrev pub with_mail : ℕ → Mail (Command L) → List (Mail (Command L)) → List (Mail (Command L))
  with_mail k mail boxes = slice_set boxes k mail

  -- the letters in a mailbox, oldest first
  abbrev pub letters : Mail (Command L) → List Letter
  letters mail = map (λ command. command.letter) mail.commands

  -- the oldest command of this mailbox was taken out, and its place is free; the others are as before
  pub record Takes (k : ℕ) (command : Command L) (old new : List (Mail (Command L))) : Type 0 where
    pub front : (mail_at old k).commands ≡ command ∷ (mail_at new k).commands
    pub spare : (mail_at new k).spare ≡ (mail_at old k).spare
    pub freed : (mail_at new k).freed ≡ true
    pub others : (j : ℕ) → j ≢ k → mail_at new j ≡ mail_at old j
    pub many : length new ≡ length old

  -- such a command, which carries nothing
  pub record IsBareTold (command : Command L) : Type 0 where
    pub empty : command.load ≡ None
    pub word : tells_object command.letter.word ≡ true

  -- such commands were put behind those that were there, each in room that was kept
  pub record GrowsBare (old new : Mail (Command L)) : Type 0 where
    pub more : List (Command L)
    pub commands : new.commands ≡ old.commands ++ more
    pub bare : All (λ command. IsBareTold command) more
    pub spare : new.spare + length more ≡ old.spare
    pub freed : new.freed ≡ old.freed

  -- the same of each mailbox
  pub record PutsBare (old new : List (Mail (Command L))) : Type 0 where
    pub grows : (k : ℕ) → GrowsBare (mail_at old k) (mail_at new k)
    pub many : length new ≡ length old

  -- the letters of each mailbox are these
  pub record AreIn (boxes : List (Mail (Command L))) (letters_in : ℕ → List Letter) : Type 0 where
    pub each : (k : ℕ) → letters (mail_at boxes k) ≡ letters_in k

  -- a bit for each mailbox says whether a command waits in it
  pub record AreShown (words : List ℕ) (boxes : List (Mail (Command L))) : Type 0 where
    pub each : (k : ℕ) → bit_in words k ≡ some_bit (mail_at boxes k).commands
    pub long : length boxes ≤ 64 * length words
