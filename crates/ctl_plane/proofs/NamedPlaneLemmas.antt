-- That a control plane goes on being one where an event gives names, and a holder where it is asked for nothing.
use Rattle.std.specs.Prelude.{◌≡◌, ◌++◌, ◌∷◌, [], ℕ, List, Option, None, map, refl}
use Rattle.std.proofs.Common.{sym, ap, ◌∙◌, subst}
use Rattle.std.proofs.lemmas.List.{append-nil, map-append}
use Rattle.zq_base.specs.declared.endpoint.Endpoint.TheVariants.{Inproc}
use Rattle.zq_base.specs.declared.ids.EndId.{EndId}
use Rattle.zq_base.specs.declared.ids.ObjId.{ObjId}
use Rattle.spec_control.specs.declared.book.Binding.{Binding}
use Rattle.spec_control.specs.declared.end.Reason.{Reason}
use Rattle.spec_control.specs.declared.entry.Answered.{Answered}
use Rattle.spec_control.specs.declared.entry.Did.{Did}
use Rattle.spec_control.specs.declared.entry.Did.TheVariants.{Asked}
use Rattle.spec_control.specs.declared.entry.Item.{Item}
use Rattle.spec_control.specs.declared.entry.Joining.{Joining}
use Rattle.spec_control.specs.declared.request.Req.{Req}
use Rattle.spec_control.specs.declared.request.Req.TheVariants.{Connect}
use Rattle.spec_control.specs.declared.request.Refusal.{Refusal}
use Rattle.spec_control.specs.declared.request.Reply.{Reply}
use Rattle.spec_control.specs.declared.request.Reply.TheVariants.{Done, Object, Pair, Both, Wait, Asked as WasAsked, Before, Refused}
use Rattle.spec_control.specs.Names.{name_of, FitsNames, AreNamed}
use Rattle.spec_control.specs.Control.{Control}
use Rattle.spec_control.specs.Rows.{Rows}
use Rattle.spec_control.specs.After.{after, answers_in, connects_to}
use Rattle.spec_control.specs.Held.{held_as}
use Rattle.spec_control.proofs.NamedLemmas.{later}
use Rattle.desk.specs.declared.given.Given.{Given}
use Rattle.desk.specs.Holding.{Holding, Stays}
use Rattle.desk.specs.Lent.{HasAll, HasEnds}
use Rattle.desk.specs.declared.load.Load.{Load}
use Rattle.ctl_state.specs.declared.state.State.{State}
use Rattle.ctl_plane.specs.Carried.{AreCarried, BindsFit, IsPlane}
use Rattle.ctl_plane.specs.Past.{Past, as_item, items_of, control_of, with_event, IsHistory}
use Rattle.ctl_moves.specs.Processing.{IsSilent}
use Rattle.ctl_plane.specs.Hearing.{HasWhat}
use Rattle.ctl_plane.specs.Joining.{IsOfSame}
use Rattle.ctl_plane.proofs.DeliverLemmas.{has_later}
use Rattle.ctl_plane.proofs.EventLemmas.{control_more}
use Rattle.ctl_plane.proofs.PlaneLemmas.{named_more}

module _ {N O I S : Type 0} (out_name : O → N) (in_name : I → N) where
  -- an event more, by what is carried and what is on its way then, with the names that it gives
  pub plane_named : (s t : State (Load N O I)) (p : Past (Given N O I) N S) (did : Did N S) (spare later_spare : ℕ) → IsPlane out_name in_name s p spare → IsHistory t (with_event did p) later_spare →
      FitsNames (items_of p) (as_item did) → AreCarried out_name in_name (items_of p ++ as_item did ∷ []) (after did (control_of p)) t.boxes → BindsFit (after did (control_of p)) t.objects.lists →
      IsPlane out_name in_name t (with_event did p) later_spare
  plane_named s t p did spare later_spare h history names carried binds = record {
    history = history;
    named = subst (λ (xs : List (Item N S)). AreNamed [] xs) (sym items_are) (named_more [] (items_of p) (as_item did) h.named names);
    carried = subst (λ (d : Control). AreCarried out_name in_name (items_of (with_event did p)) d t.boxes) (sym (control_more p did))
        (subst (λ (xs : List (Item N S)). AreCarried out_name in_name xs (after did (control_of p)) t.boxes) (sym items_are) carried);
    binds = subst (λ (d : Control). BindsFit d t.objects.lists) (sym (control_more p did)) binds;
  }
    where
      items_are : items_of (with_event did p) ≡ items_of p ++ as_item did ∷ []
      items_are = map-append as_item p.events (did ∷ [])

-- ---- a holder that is asked for nothing
module _ {N : Type 0} where
  pub stays_not : (o : ℕ) (h : Holding N) → Stays o h h
  stays_not o h = record {
    now = record { ends = refl; others = λ i other. refl; objects = λ i. refl; kinds = λ i. refl; output = λ i. refl; delimiters = λ i d here at. at };
    writers = λ d. refl;
  }

  pub same_stays : (o : ℕ) (h k : Holding N) → Stays o h k → IsOfSame h k
  same_stays o h k stays = record { objects = stays.now.objects; kinds = stays.now.kinds; output = stays.now.output }

  pub no_ends : {S : Type 0} (o : ℕ) (h : Holding N) (a : Answered N S) → IsSilent a → h.ends o ≡ h.ends o ++ map held_as a.joined
  no_ends o h a silent = sym (ap (λ (js : List (Joining N)). h.ends o ++ map held_as js) silent.joined ∙ append-nil (h.ends o))

module _ {G N S : Type 0} where
  -- an event that moves no end
  pub keeps_aside : (p : Past G N S) (did : Did N S) (h : Holding N) → (after did (control_of p)).rows ≡ (control_of p).rows → (after did (control_of p)).attached ≡ (control_of p).attached →
      (after did (control_of p)).reasons ≡ (control_of p).reasons → HasWhat p h → HasWhat (with_event did p) h
  keeps_aside p did h rows attached reasons has =
      subst (λ (d : Control). HasAll (name_of (items_of (with_event did p))) d h) (sym (control_more p did))
      (subst (λ (items : List (Item N S)). HasAll (name_of items) (after did (control_of p)) h) (sym (map-append as_item p.events (did ∷ []))) all)
    where
      names : EndId → Option N
      names = name_of (items_of p ++ as_item did ∷ [])

      before : HasAll (name_of (items_of p ++ as_item did ∷ [])) (control_of p) h
      before = has_later (name_of (items_of p)) (name_of (items_of p ++ as_item did ∷ [])) (later (items_of p) (as_item did ∷ [])) (control_of p) h has

      all : HasAll (name_of (items_of p ++ as_item did ∷ [])) (after did (control_of p)) h
      all i holds =
          subst (λ (s : Rows). HasEnds (name_of (items_of p ++ as_item did ∷ [])) s.pairs (after did (control_of p)).attached (after did (control_of p)).reasons h i) (sym rows)
          (subst (λ (es : List EndId). HasEnds (name_of (items_of p ++ as_item did ∷ [])) (control_of p).rows.pairs es (after did (control_of p)).reasons h i) (sym attached)
          (subst (λ (rs : EndId → Option Reason). HasEnds (name_of (items_of p ++ as_item did ∷ [])) (control_of p).rows.pairs (control_of p).attached rs h i) (sym reasons) (before i holds)))

  -- a connect that waits
  module _ (p : Past G N S) (o : ObjId) (name : List ℕ) (a : Answered N S) (h : Holding N) (free : (control_of p).names.held (Inproc name) ≡ None) (has : HasWhat p h) where
    waits : (reply : Reply) → after (Asked (Connect o (Inproc name)) reply a) (control_of p) ≡ connects_to o.0 (Inproc name) ((control_of p).names.held (Inproc name)) (answers_in a) (control_of p) →
        HasWhat (with_event (Asked (Connect o (Inproc name)) reply a) p) h
    waits reply is =
        keeps_aside p (Asked (Connect o (Inproc name)) reply a) h
        (ap (λ (d : Control). d.rows) is ∙ ap (λ (x : Option Binding). (connects_to o.0 (Inproc name) x (answers_in a) (control_of p)).rows) free)
        (ap (λ (d : Control). d.attached) is ∙ ap (λ (x : Option Binding). (connects_to o.0 (Inproc name) x (answers_in a) (control_of p)).attached) free)
        (ap (λ (d : Control). d.reasons) is ∙ ap (λ (x : Option Binding). (connects_to o.0 (Inproc name) x (answers_in a) (control_of p)).reasons) free) has

    pub keeps_waiting : (reply : Reply) → HasWhat (with_event (Asked (Connect o (Inproc name)) reply a) p) h
    keeps_waiting Done = waits Done refl
    keeps_waiting (Object x) = waits (Object x) refl
    keeps_waiting (Pair x) = waits (Pair x) refl
    keeps_waiting (Both x y) = waits (Both x y) refl
    keeps_waiting Wait = waits Wait refl
    keeps_waiting WasAsked = waits WasAsked refl
    keeps_waiting Before = keeps_aside p (Asked (Connect o (Inproc name)) Before a) h refl refl refl has
    keeps_waiting (Refused refusal) = keeps_aside p (Asked (Connect o (Inproc name)) (Refused refusal) a) h refl refl refl has

  pub keeps_refused : (p : Past G N S) (request : Req) (refusal : Refusal) (a : Answered N S) (h : Holding N) → HasWhat p h → HasWhat (with_event (Asked request (Refused refusal) a) p) h
  keeps_refused p request refusal a h has = keeps_aside p (Asked request (Refused refusal) a) h refl refl refl has
