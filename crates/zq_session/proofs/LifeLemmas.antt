-- What became due, and what that adds to the story of a session.
use Rattle.std.proofs.Common.{◌≡◌, ℕ, Some, Bool, true, false, List, [], ◌∷◌, ◌++◌, refl, subst, inl, inr}
use Rattle.std.specs.Prelude.{Contains}
use Rattle.std.proofs.lemmas.List.Elements.{Contains-push}
use Rattle.zq_base.specs.declared.options.Peer.{Peer}
use Rattle.spec_control.specs.declared.end.Reason.TheVariants.{Linger, Link}
use Rattle.spec_control.specs.declared.request.Req.TheVariants.{Shaken, AskEnd, AskOver, OutputOver}
use Rattle.spec_link.specs.declared.due.Due.{Due}
use Rattle.spec_link.specs.declared.due.Due.TheVariants.{Request, Delimiter}
use Rattle.spec_link.specs.History.{Basis, SessionEvent, Standing, IsDue, GaveUp}
use Rattle.spec_control.specs.declared.end.EndState.TheVariants.{WaitDelimiter}
use Rattle.spec_link.specs.Turn.{DueOnce, LingerIsOver}
use Rattle.zq_session.specs.declared.life.Asked.{Asked}
use Rattle.zq_session.specs.declared.life.Life.{Life}
use Rattle.zq_session.specs.Lives.{Story, AreDue, Tells, basis_of, standing_of}
use Rattle.zq_session.specs.LifeSteps.{LifeStep, LifeDoes, GivesUpAt, AndMoved}
use Rattle.zq_session.proofs.ListLemmas.{in_either, in_left, in_one}

-- ---- lists with one more

pub contains_on : {A : Type 0} (xs : List A) (x y : A) → Contains xs y → Contains (xs ++ x ∷ []) y
contains_on xs x y c = in_left xs (x ∷ []) y c

contains_back : {A : Type 0} (xs : List A) (x y : A) → (x ≡ y → ⊥) → Contains (xs ++ x ∷ []) y → Contains xs y
contains_back xs x y differs c =
    elim (in_either xs (x ∷ []) y c) as (λ _. Contains xs y) [ inl k ↦ k | inr k ↦ absurd (differs (in_one x y k.0 k.1 k.2)) ]

-- a flag of another thing stays as it is
tells_more : {A : Type 0} (b : Bool) (xs : List A) (x y : A) → (x ≡ y → ⊥) → Tells b (Contains xs y) → Tells b (Contains (xs ++ x ∷ []) y)
tells_more true xs x y differs t = contains_on xs x y t
tells_more false xs x y differs t = λ c. t (contains_back xs x y differs c)

tells_more_shaken : (b : Bool) (xs : List Due) (x : Due) (ask : Peer → Due) → ((peer : Peer) → x ≡ ask peer → ⊥) → Tells b ((peer : Peer) × Contains xs (ask peer))
    → Tells b ((peer : Peer) × Contains (xs ++ x ∷ []) (ask peer))
tells_more_shaken true xs x ask differs t = (t.0, contains_on xs x (ask t.0) t.1)
tells_more_shaken false xs x ask differs t = λ c. t (c.0, contains_back xs x (ask c.0) (differs c.0) c.1)

-- ---- one thing more became due

module _ (l : Life) (asked : Asked) (dues : List Due) (due : AreDue l asked dues) where
  pub due_linger : AreDue l (record asked { linger = true }) (dues ++ Request (AskEnd l.end Linger) ∷ [])
  due_linger =
      let x = Request (AskEnd l.end Linger) in
      record {
        linger = Contains-push dues x;
        link = tells_more asked.link dues x (Request (AskEnd l.end Link)) (λ e. absurd cc) due.link;
        over = tells_more asked.over dues x (Request (AskOver l.object)) (λ e. absurd cc) due.over;
        output = tells_more asked.output dues x (Request (OutputOver l.object)) (λ e. absurd cc) due.output;
        delimiter = tells_more asked.delimiter dues x (Delimiter l.end) (λ e. absurd cc) due.delimiter;
        shaken = tells_more_shaken asked.shaken dues x (λ peer. Request (Shaken l.object peer)) (λ peer e. absurd cc) due.shaken;
      }

  pub due_link : AreDue l (record asked { link = true }) (dues ++ Request (AskEnd l.end Link) ∷ [])
  due_link =
      let x = Request (AskEnd l.end Link) in
      record {
        linger = tells_more asked.linger dues x (Request (AskEnd l.end Linger)) (λ e. absurd cc) due.linger;
        link = Contains-push dues x;
        over = tells_more asked.over dues x (Request (AskOver l.object)) (λ e. absurd cc) due.over;
        output = tells_more asked.output dues x (Request (OutputOver l.object)) (λ e. absurd cc) due.output;
        delimiter = tells_more asked.delimiter dues x (Delimiter l.end) (λ e. absurd cc) due.delimiter;
        shaken = tells_more_shaken asked.shaken dues x (λ peer. Request (Shaken l.object peer)) (λ peer e. absurd cc) due.shaken;
      }

  pub due_over : AreDue l (record asked { over = true }) (dues ++ Request (AskOver l.object) ∷ [])
  due_over =
      let x = Request (AskOver l.object) in
      record {
        linger = tells_more asked.linger dues x (Request (AskEnd l.end Linger)) (λ e. absurd cc) due.linger;
        link = tells_more asked.link dues x (Request (AskEnd l.end Link)) (λ e. absurd cc) due.link;
        over = Contains-push dues x;
        output = tells_more asked.output dues x (Request (OutputOver l.object)) (λ e. absurd cc) due.output;
        delimiter = tells_more asked.delimiter dues x (Delimiter l.end) (λ e. absurd cc) due.delimiter;
        shaken = tells_more_shaken asked.shaken dues x (λ peer. Request (Shaken l.object peer)) (λ peer e. absurd cc) due.shaken;
      }

  pub due_output : AreDue l (record asked { output = true }) (dues ++ Request (OutputOver l.object) ∷ [])
  due_output =
      let x = Request (OutputOver l.object) in
      record {
        linger = tells_more asked.linger dues x (Request (AskEnd l.end Linger)) (λ e. absurd cc) due.linger;
        link = tells_more asked.link dues x (Request (AskEnd l.end Link)) (λ e. absurd cc) due.link;
        over = tells_more asked.over dues x (Request (AskOver l.object)) (λ e. absurd cc) due.over;
        output = Contains-push dues x;
        delimiter = tells_more asked.delimiter dues x (Delimiter l.end) (λ e. absurd cc) due.delimiter;
        shaken = tells_more_shaken asked.shaken dues x (λ peer. Request (Shaken l.object peer)) (λ peer e. absurd cc) due.shaken;
      }

  pub due_delimiter : AreDue l (record asked { delimiter = true }) (dues ++ Delimiter l.end ∷ [])
  due_delimiter =
      let x = Delimiter l.end in
      record {
        linger = tells_more asked.linger dues x (Request (AskEnd l.end Linger)) (λ e. absurd cc) due.linger;
        link = tells_more asked.link dues x (Request (AskEnd l.end Link)) (λ e. absurd cc) due.link;
        over = tells_more asked.over dues x (Request (AskOver l.object)) (λ e. absurd cc) due.over;
        output = tells_more asked.output dues x (Request (OutputOver l.object)) (λ e. absurd cc) due.output;
        delimiter = Contains-push dues x;
        shaken = tells_more_shaken asked.shaken dues x (λ peer. Request (Shaken l.object peer)) (λ peer e. absurd cc) due.shaken;
      }

  pub due_shaken : (peer : Peer) → AreDue l (record asked { shaken = true }) (dues ++ Request (Shaken l.object peer) ∷ [])
  due_shaken peer =
      let x = Request (Shaken l.object peer) in
      record {
        linger = tells_more asked.linger dues x (Request (AskEnd l.end Linger)) (λ e. absurd cc) due.linger;
        link = tells_more asked.link dues x (Request (AskEnd l.end Link)) (λ e. absurd cc) due.link;
        over = tells_more asked.over dues x (Request (AskOver l.object)) (λ e. absurd cc) due.over;
        output = tells_more asked.output dues x (Request (OutputOver l.object)) (λ e. absurd cc) due.output;
        delimiter = tells_more asked.delimiter dues x (Delimiter l.end) (λ e. absurd cc) due.delimiter;
        shaken = (peer, Contains-push dues x);
      }

-- ---- steps

-- nothing happened
pub no_step : (l : Life) (p : Story) → AreDue l l.asked p.dues → LifeStep l l p []
no_step l p due = record {
  dues = p.dues;
  after_is = refl;
  due = due;
  same = record { object_is = refl; end_is = refl; kind_is = refl; dials_is = refl; linger_is = refl; state_is = refl; told_is = refl; waits_is = refl };
  grows = λ x c. c;
  shaken_is = refl;
}

-- this became due
pub due_step : (l : Life) (asked : Asked) (p : Story) (x : Due) → asked.shaken ≡ l.asked.shaken → AreDue l asked (p.dues ++ x ∷ []) → LifeStep l (record l { asked = asked }) p (IsDue x ∷ [])
due_step l asked p x shaken due = record {
  dues = p.dues ++ x ∷ [];
  after_is = refl;
  due = record { linger = due.linger; link = due.link; over = due.over; output = due.output; delimiter = due.delimiter; shaken = due.shaken };
  same = record { object_is = refl; end_is = refl; kind_is = refl; dials_is = refl; linger_is = refl; state_is = refl; told_is = refl; waits_is = refl };
  grows = λ y c. contains_on p.dues x y c;
  shaken_is = shaken;
}

-- it isn't due, or it was due before
pub not_due : (s : Standing) (premise : Type 0) (x : Due) → (premise → ⊥) → DueOnce s premise x []
not_due s premise x never = inr ((λ q. never q.0), refl)

pub was_due : (s : Standing) (premise : Type 0) (x : Due) (b : Bool) → b ≡ true → Tells b (Contains s.dues x) → DueOnce s premise x []
was_due s premise x b e t = inr ((λ q. q.1 (subst (λ (k : Bool). Tells k (Contains s.dues x)) e t)), refl)

pub is_due : (s : Standing) (premise : Type 0) (x : Due) (b : Bool) → b ≡ false → Tells b (Contains s.dues x) → premise → DueOnce s premise x (IsDue x ∷ [])
is_due s premise x b e t k = inl ((k, subst (λ (c : Bool). Tells c (Contains s.dues x)) e t), refl)

pub differs : (b : Bool) → b ≡ false → b ≡ true → ⊥
differs b e d = absurd cc

-- ---- one thing due, whatever the story

-- what happened, whether or not it is told that it moved
pub does_just : (old new : Life) (does : Basis → Standing → List SessionEvent → Type 0) (moved : Bool) → LifeDoes old new (AndMoved moved does) → LifeDoes old new does
does_just old new does moved f = λ p due. (let d = f p due in (d.0, d.1, d.2.0))

module _ (l : Life) (premise : Basis → Standing → Type 0) (x : Basis → Due) where
  -- its premise doesn't hold
  pub moves_none : ((p : Story) → premise (basis_of l p) (standing_of l p) → ⊥) → LifeDoes l l (AndMoved false (λ b s. DueOnce s (premise b s) (x b)))
  moves_none never = λ p due. ([], no_step l p due, (not_due (standing_of l p) (premise (basis_of l p) (standing_of l p)) (x (basis_of l p)) (never p), refl))

  pub does_none : ((p : Story) → premise (basis_of l p) (standing_of l p) → ⊥) → LifeDoes l l (λ b s. DueOnce s (premise b s) (x b))
  does_none never = does_just l l (λ b s. DueOnce s (premise b s) (x b)) false (moves_none never)

  -- it was due before
  pub moves_again : (flag : Bool) → flag ≡ true → ((p : Story) → AreDue l l.asked p.dues → Tells flag (Contains p.dues (x (basis_of l p)))) → LifeDoes l l (AndMoved false (λ b s. DueOnce s (premise b s) (x b)))
  moves_again flag e tells = λ p due. ([], no_step l p due, (was_due (standing_of l p) (premise (basis_of l p) (standing_of l p)) (x (basis_of l p)) flag e (tells p due), refl))

  pub does_again : (flag : Bool) → flag ≡ true → ((p : Story) → AreDue l l.asked p.dues → Tells flag (Contains p.dues (x (basis_of l p)))) → LifeDoes l l (λ b s. DueOnce s (premise b s) (x b))
  does_again flag e tells = does_just l l (λ b s. DueOnce s (premise b s) (x b)) false (moves_again flag e tells)

  -- it becomes due
  pub moves_now : (asked : Asked) (flag : Bool) → asked.shaken ≡ l.asked.shaken → flag ≡ false → ((p : Story) → AreDue l l.asked p.dues → Tells flag (Contains p.dues (x (basis_of l p))))
      → ((p : Story) → premise (basis_of l p) (standing_of l p)) → ((p : Story) → AreDue l l.asked p.dues → AreDue l asked (p.dues ++ x (basis_of l p) ∷ []))
      → LifeDoes l (record l { asked = asked }) (AndMoved true (λ b s. DueOnce s (premise b s) (x b)))
  moves_now asked flag shaken e tells holds marks = λ p due. (
    IsDue (x (basis_of l p)) ∷ [],
    due_step l asked p (x (basis_of l p)) shaken (marks p due),
    (is_due (standing_of l p) (premise (basis_of l p) (standing_of l p)) (x (basis_of l p)) flag e (tells p due) (holds p), refl),
  )

  pub does_now : (asked : Asked) (flag : Bool) → asked.shaken ≡ l.asked.shaken → flag ≡ false → ((p : Story) → AreDue l l.asked p.dues → Tells flag (Contains p.dues (x (basis_of l p))))
      → ((p : Story) → premise (basis_of l p) (standing_of l p)) → ((p : Story) → AreDue l l.asked p.dues → AreDue l asked (p.dues ++ x (basis_of l p) ∷ []))
      → LifeDoes l (record l { asked = asked }) (λ b s. DueOnce s (premise b s) (x b))
  does_now asked flag shaken e tells holds marks = does_just l (record l { asked = asked }) (λ b s. DueOnce s (premise b s) (x b)) true (moves_now asked flag shaken e tells holds marks)

-- ---- giving up

pub gives_before : (l l2 : Life) (now : ℕ) (moved : Bool) → l.gave_up ≡ true → LifeDoes l l2 (AndMoved moved (λ b s. DueOnce s (s.state ≡ Some WaitDelimiter) (Request (AskEnd b.end Linger))))
    → LifeDoes l l2 (AndMoved moved (GivesUpAt now))
gives_before l l2 now moved e f = λ p due. (let d = f p due in (d.0, d.1, (inr (e, d.2.0), d.2.1)))

pub gives_not : (l : Life) (now : ℕ) → l.gave_up ≡ false → (LingerIsOver l.linger l.told now → ⊥) → LifeDoes l l (AndMoved false (GivesUpAt now))
gives_not l now up never = λ p due. ([], no_step l p due, (inl (up, inr (never, refl)), refl))

pub gives_now : (l l2 : Life) (now : ℕ) (asks : Bool) → l.gave_up ≡ false → LingerIsOver l.linger l.told now
    → LifeDoes (record l { gave_up = true }) l2 (AndMoved asks (λ b s. DueOnce s (s.state ≡ Some WaitDelimiter) (Request (AskEnd b.end Linger))))
    → LifeDoes l l2 (AndMoved true (GivesUpAt now))
gives_now l l2 now asks up over f = λ p due.
    let l1 = record l { gave_up = true } in
    let d = f p (record { linger = due.linger; link = due.link; over = due.over; output = due.output; delimiter = due.delimiter; shaken = due.shaken }) in
    let same = d.1.same in (
      GaveUp ∷ d.0,
      record {
        dues = d.1.dues;
        after_is = d.1.after_is;
        due = d.1.due;
        same = record {
          object_is = same.object_is;
          end_is = same.end_is;
          kind_is = same.kind_is;
          dials_is = same.dials_is;
          linger_is = same.linger_is;
          state_is = same.state_is;
          told_is = same.told_is;
          waits_is = same.waits_is;
        };
        grows = d.1.grows;
        shaken_is = d.1.shaken_is;
      },
      (inl (up, inl (over, (d.0, refl, d.2.0))), refl),
    )
