-- What became due and wasn't handed out is handed out.
use Rattle.std.proofs.Common.{◌≡◌, Bool, true, false}
use Rattle.std.specs.Prelude.{Contains}
use Rattle.spec_control.specs.declared.end.Reason.TheVariants.{Linger, Link}
use Rattle.spec_control.specs.declared.request.Req.TheVariants.{AskEnd, AskOver, OutputOver}
use Rattle.spec_link.specs.declared.due.Due.TheVariants.{Request, Delimiter}
use Rattle.zq_session.specs.declared.life.Asked.{Asked}
use Rattle.zq_session.specs.declared.life.Life.{Life}
use Rattle.zq_session.specs.Lives.{Tells}
use Rattle.zq_session.specs.Dues.{Hands}
use Rattle.zq_session.proofs.LifeLemmas.{due_linger, due_link, due_over, due_output, due_delimiter}

pub tells_true : (b : Bool) (X : Type 0) → b ≡ true → Tells b X → X
tells_true true X e t = t
tells_true false X e t = absurd cc

pub tells_false : (b : Bool) (X : Type 0) → b ≡ false → Tells b X → X → ⊥
tells_false true X e t x = absurd cc
tells_false false X e t x = t x

module _ (l : Life) (given : Asked) where
  pub hands_linger : l.asked.linger ≡ true → given.linger ≡ false → Hands l given (record given { linger = true }) (Request (AskEnd l.end Linger))
  hands_linger asked once = λ dues handed a h.
      let x = Request (AskEnd l.end Linger) in
      (tells_true l.asked.linger (Contains dues x) asked a.linger, tells_false given.linger (Contains handed x) once h.linger, due_linger l given handed h)

  pub hands_link : l.asked.link ≡ true → given.link ≡ false → Hands l given (record given { link = true }) (Request (AskEnd l.end Link))
  hands_link asked once = λ dues handed a h.
      let x = Request (AskEnd l.end Link) in
      (tells_true l.asked.link (Contains dues x) asked a.link, tells_false given.link (Contains handed x) once h.link, due_link l given handed h)

  pub hands_over : l.asked.over ≡ true → given.over ≡ false → Hands l given (record given { over = true }) (Request (AskOver l.object))
  hands_over asked once = λ dues handed a h.
      let x = Request (AskOver l.object) in
      (tells_true l.asked.over (Contains dues x) asked a.over, tells_false given.over (Contains handed x) once h.over, due_over l given handed h)

  pub hands_output : l.asked.output ≡ true → given.output ≡ false → Hands l given (record given { output = true }) (Request (OutputOver l.object))
  hands_output asked once = λ dues handed a h.
      let x = Request (OutputOver l.object) in
      (tells_true l.asked.output (Contains dues x) asked a.output, tells_false given.output (Contains handed x) once h.output, due_output l given handed h)

  pub hands_delimiter : l.asked.delimiter ≡ true → given.delimiter ≡ false → Hands l given (record given { delimiter = true }) (Delimiter l.end)
  hands_delimiter asked once = λ dues handed a h.
      let x = Delimiter l.end in
      (tells_true l.asked.delimiter (Contains dues x) asked a.delimiter, tells_false given.delimiter (Contains handed x) once h.delimiter, due_delimiter l given handed h)
