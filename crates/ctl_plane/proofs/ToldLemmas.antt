-- What changes of state the holders of ends are told of in each event.
use Rattle.std.specs.Prelude.{◌≡◌, ◌<◌, ◌∷◌, [], ℕ, List, Option, None, All, length, refl}
use Rattle.std.proofs.Common.{sym, ap, ◌∙◌, subst}
use Rattle.std.proofs.lemmas.List.{append-nil}
use Rattle.zq_base.specs.declared.endpoint.Endpoint.TheVariants.{Inproc}
use Rattle.zq_base.specs.declared.ids.EndId.{EndId}
use Rattle.zq_base.specs.declared.ids.ObjId.{ObjId}
use Rattle.spec_control.specs.declared.end.EndState.{EndState}
use Rattle.spec_control.specs.declared.entry.Answered.{Answered}
use Rattle.spec_control.specs.declared.entry.Did.{Did}
use Rattle.spec_control.specs.declared.entry.Did.TheVariants.{Asked}
use Rattle.spec_control.specs.declared.request.Req.{Req}
use Rattle.spec_control.specs.declared.request.Refusal.{Refusal}
use Rattle.spec_control.specs.declared.request.Reply.{Reply}
use Rattle.spec_control.specs.declared.request.Reply.TheVariants.{Done, Object, Pair, Both, Wait, Asked as WasAsked, Before, Refused}
use Rattle.spec_control.specs.declared.request.Req.TheVariants.{Connect}
use Rattle.spec_control.specs.declared.book.Binding.{Binding}
use Rattle.spec_control.specs.Place.{Place, Unmade, At}
use Rattle.spec_control.specs.Rows.{Rows, pair, end_place}
use Rattle.spec_control.specs.Control.{Control, place_of}
use Rattle.spec_control.specs.After.{after, answers_in, connects_to}
use Rattle.control_laws.specs.AttachedOnce.{AreOnce}
use Rattle.control_laws.proofs.AttachedOnceLemmas.{ends_are_attached_once}
use Rattle.desk.specs.Holding.{Holding}
use Rattle.desk.specs.Turns.{TurnsBy, HasTurned, turn_at}
use Rattle.ctl_moves.specs.Turning.{TurnsOnce}
use Rattle.ctl_moves.proofs.TurnedLemmas.{from_gone, in_none, turns_same}
use Rattle.std.proofs.lemmas.List.Elements.{All-head}
use Rattle.spec_control.specs.declared.end.EndState.TheVariants.{Gone}
use Rattle.ctl_moves.specs.Joined.{Attaches, IsFresh}
use Rattle.ctl_plane.specs.Past.{Past, control_of, items_of, with_event, IsPast}
use Rattle.ctl_plane.proofs.EventLemmas.{control_more}
use Rattle.ctl_moves.proofs.OnceLemmas.{told_more}

module _ {N : Type 0} where
  -- an end more was attached, and it alone moved
  pub told_attached : (c d : Control) (o : ℕ) (e : EndId) (h k : Holding N) → Attaches c d o (e ∷ []) → All (λ x. x.pair.0 < length c.rows.pairs) c.attached → place_of c e ≡ At Gone → TurnsBy (turn_at e Unmade (place_of d e)) h k → HasTurned c d h k
  told_attached c d o e h k a known new turned =
      told_more c d (e ∷ []) h k a.attached (λ i x lt. a.places _ (known i x lt))
      (subst (λ (ts : List (EndId × EndState)). TurnsBy ts h k)
      (sym (append-nil (turn_at e (place_of c e) (place_of d e)) ∙ ap (λ (p : Place). turn_at e p (place_of d e)) new
      ∙ from_gone e (place_of d e) (All-head (λ x. IsFresh (place_of d x)) e [] a.fresh).here)) turned)

  -- ---- in the events so far
  module _ {G S : Type 0} (p : Past G N S) (run : IsPast p) where
    pub once_attached : AreOnce (control_of p).attached
    once_attached = ends_are_attached_once N S p.workers (items_of p) run

    pub event_told : (did : Did N S) (h k : Holding N) → TurnsOnce (control_of p) (after did (control_of p)) h k → HasTurned (control_of p) (control_of (with_event did p)) h k
    event_told did h k turned = subst (λ (d : Control). HasTurned (control_of p) d h k) (sym (control_more p did)) (turned once_attached)

  pub past_told : {G S : Type 0} (p : Past G N S) (h k : Holding N) → TurnsBy [] h k → HasTurned (control_of p) (control_of p) h k
  past_told p h k none = subst (λ (ts : List (EndId × EndState)). TurnsBy ts h k) (sym (in_none (control_of p) (control_of p) (λ e. refl))) none

  -- an event that moves no end
  pub aside_told : {G S : Type 0} (p : Past G N S) (did : Did N S) (h : Holding N) → (after did (control_of p)).rows ≡ (control_of p).rows → HasTurned (control_of p) (control_of (with_event did p)) h h
  aside_told p did h rows =
      subst (λ (d : Control). HasTurned (control_of p) d h h) (sym (control_more p did))
      (subst (λ (ts : List (EndId × EndState)). TurnsBy ts h h) (sym (in_none (control_of p) (after did (control_of p)) (λ e. ap (λ (s : Rows). end_place (pair s e.pair.0) e.a) rows))) (turns_same h))

  -- a connect that waits
  module _ {G S : Type 0} (p : Past G N S) (o : ObjId) (name : List ℕ) (a : Answered N S) (h : Holding N) (free : (control_of p).names.held (Inproc name) ≡ None) where
    waits_told : (reply : Reply) → after (Asked (Connect o (Inproc name)) reply a) (control_of p) ≡ connects_to o.0 (Inproc name) ((control_of p).names.held (Inproc name)) (answers_in a) (control_of p) →
        HasTurned (control_of p) (control_of (with_event (Asked (Connect o (Inproc name)) reply a) p)) h h
    waits_told reply is =
        aside_told p (Asked (Connect o (Inproc name)) reply a) h
        (ap (λ (d : Control). d.rows) is ∙ ap (λ (x : Option Binding). (connects_to o.0 (Inproc name) x (answers_in a) (control_of p)).rows) free)

    pub waiting_told : (reply : Reply) → HasTurned (control_of p) (control_of (with_event (Asked (Connect o (Inproc name)) reply a) p)) h h
    waiting_told Done = waits_told Done refl
    waiting_told (Object x) = waits_told (Object x) refl
    waiting_told (Pair x) = waits_told (Pair x) refl
    waiting_told (Both x y) = waits_told (Both x y) refl
    waiting_told Wait = waits_told Wait refl
    waiting_told WasAsked = waits_told WasAsked refl
    waiting_told Before = aside_told p (Asked (Connect o (Inproc name)) Before a) h refl
    waiting_told (Refused refusal) = aside_told p (Asked (Connect o (Inproc name)) (Refused refusal) a) h refl

  -- a request that was refused leaves all
  pub refused_told : {G S : Type 0} (p : Past G N S) (req : Req) (refusal : Refusal) (a : Answered N S) (h : Holding N) → HasTurned (control_of p) (control_of (with_event (Asked req (Refused refusal) a) p)) h h
  refused_told p req refusal a h = aside_told p (Asked req (Refused refusal) a) h refl
