-- The control plane without the counts of the pipes that were settled, which are known once all steps are (own choice).
use Rattle.std.specs.Prelude.{◌≡◌, ℕ, is_some, map}
use Rattle.zq_base.specs.declared.ids.Settled.{Settled}
use Rattle.zq_base.specs.declared.ids.EndId.{EndId}
use Rattle.spec_control.specs.declared.letter.Letter.{Letter}
use Rattle.spec_control.specs.declared.request.Req.{Req}
use Rattle.spec_control.specs.declared.request.Reply.{Reply}
use Rattle.spec_control.specs.declared.entry.Answered.{Answered}
use Rattle.spec_control.specs.declared.entry.Did.{Did}
use Rattle.spec_control.specs.declared.entry.Did.TheVariants.{Asked, Delivered, Delimited}
use Rattle.spec_control.specs.Control.{Control, Settlement}
use Rattle.spec_control.specs.After.{kind_answer, after}

-- no messages
abbrev pub no_counts : Settled
no_counts = record { sent = 0; got = 0; rest = 0 }

-- a settlement but for its counts, and the control plane but for those of all settlements
abbrev pub uncounted : Settlement → Settlement
uncounted s = record s { counts = no_counts }

abbrev pub blank : Control → Control
blank c = record c { settlements = map uncounted c.settlements }

module _ {N S : Type 0} where
  -- two holders answered alike: each end that joined, whether a pipe was settled, and whether output is left
  pub record AnswerAlike (g h : Answered N S) : Type 0 where
    pub kinds : (e : EndId) → kind_answer g.joined e ≡ kind_answer h.joined e
    pub settled : is_some g.settled ≡ is_some h.settled
    pub left : g.output_left ≡ h.output_left

  -- two events are one but for what their holders tell, and these answered alike
  pub data AreAlike (did other : Did N S) : Type 0 where
    asked : (req : Req) (reply : Reply) (g h : Answered N S) → did ≡ Asked req reply g → other ≡ Asked req reply h → AnswerAlike g h → AreAlike did other
    delivered : (slot : ℕ) (letter : Letter) (g h : Answered N S) → did ≡ Delivered (record { 0 = slot }) letter g → other ≡ Delivered (record { 0 = slot }) letter h → AnswerAlike g h → AreAlike did other
    delimited : (e : EndId) (g h : Answered N S) → did ≡ Delimited e g → other ≡ Delimited e h → AreAlike did other

-- what an event leaves is settled by the event and by what it found, and no count of a settled pipe is read
abbrev pub CountsAreNotRead : (N S : Type 0) → Type 0
CountsAreNotRead N S = (did other : Did N S) (c d : Control) → AreAlike did other → blank c ≡ blank d → blank (after did c) ≡ blank (after other d)
