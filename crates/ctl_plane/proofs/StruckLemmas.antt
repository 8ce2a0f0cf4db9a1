-- That a disconnect adds its event, with the socket's holder.
use Rattle.std.specs.Prelude.{◌≡◌, ◌++◌, ◌∷◌, [], ℕ, true, List, None, refl}
use Rattle.std.proofs.Common.{arith, sym, subst}
use Rattle.std.proofs.lemmas.List.{map-append}
use Rattle.zq_base.specs.declared.endpoint.Endpoint.{Endpoint}
use Rattle.zq_base.specs.declared.ids.ObjId.{ObjId}
use Rattle.spec_control.specs.declared.request.Req.{Req}
use Rattle.spec_control.specs.declared.request.Req.TheVariants.{Disconnect}
use Rattle.spec_control.specs.declared.request.Refusal.{Refusal}
use Rattle.spec_control.specs.declared.request.Reply.TheVariants.{Done, Refused}
use Rattle.spec_control.specs.declared.entry.Answered.{Answered}
use Rattle.spec_control.specs.declared.entry.Did.{Did}
use Rattle.spec_control.specs.declared.entry.Did.TheVariants.{Asked}
use Rattle.spec_control.specs.declared.entry.Item.{Item}
use Rattle.spec_control.specs.Hold.{is_connect_to}
use Rattle.spec_control.specs.Names.{name_of}
use Rattle.spec_control.specs.Rows.{obj}
use Rattle.spec_control.specs.Control.{Control}
use Rattle.spec_control.specs.After.{after, strikes_first}
use Rattle.spec_control.specs.ControlRun.{Fits, IsOpenSocket}
use Rattle.spec_control.specs.Reply.{reply_of}
use Rattle.spec_control.proofs.NamedLemmas.{later}
use Rattle.desk.specs.declared.load.Load.{Load}
use Rattle.desk.specs.declared.given.Given.{Given}
use Rattle.desk.specs.Holding.{Holding}
use Rattle.desk.specs.Lent.{HasAll}
use Rattle.ctl_state.specs.declared.state.State.{State}
use Rattle.ctl_plane.specs.Past.{Past, as_item, items_of, control_of, with_event}
use Rattle.ctl_moves.specs.Processing.{IsSilent}
use Rattle.ctl_plane.specs.Carried.{given_in, IsPlane}
use Rattle.ctl_plane.specs.Hearing.{HasWhat}
use Rattle.ctl_moves.specs.Refusals.{refusal_in}
use Rattle.ctl_moves.specs.Striking.{StrikesWith, IsStruck}
use Rattle.ctl_plane.proofs.EventLemmas.{kept_past, control_more, one_more}
use Rattle.ctl_plane.proofs.SilentLemmas.{silent_answered}
use Rattle.ctl_plane.proofs.RefusalLemmas.{done_behind}
use Rattle.ctl_plane.proofs.PlaneLemmas.{one_plane, tells_no_names}
use Rattle.ctl_moves.proofs.FindLemmas.{loaded_capacity}
use Rattle.ctl_plane.proofs.DeliverLemmas.{loaded_given, loaded_carried, has_later}

-- a disconnect that is not refused
pub disconnect_done : (c : Control) (o : ObjId) (at : Endpoint) → refusal_in (reply_of c (Disconnect o at)) ≡ None → reply_of c (Disconnect o at) ≡ Done
disconnect_done c o at free = done_behind c _ _ Done free

module _ {G N S : Type 0} (p : Past G N S) (did : Did N S) where
  -- a holder has then what it had, by what the state is then
  pub has_then : (now : Control) (h : Holding N) → after did (control_of p) ≡ now → HasAll (name_of (items_of p)) now h → HasWhat (with_event did p) h
  has_then now h is has =
      subst (λ (c : Control). HasAll (name_of (items_of (with_event did p))) c h) (sym (control_more p did))
      (subst (λ (items : List (Item N S)). HasAll (name_of items) (after did (control_of p)) h) (sym (map-append as_item p.events (did ∷ [])))
      (subst (λ (c : Control). HasAll (name_of (items_of p ++ as_item did ∷ [])) c h) (sym is)
      (has_later (name_of (items_of p)) (name_of (items_of p ++ as_item did ∷ [])) (later (items_of p) (as_item did ∷ [])) now h has)))

-- of a request that is refused it has what it had
pub refused_has : {G N S : Type 0} (p : Past G N S) (req : Req) (refusal : Refusal) (a : Answered N S) (h : Holding N) → HasWhat p h → HasWhat (with_event (Asked req (Refused refusal) a) p) h
refused_has p req refusal a h has = has_then p (Asked req (Refused refusal) a) (control_of p) h refl has

module _ {N O I S : Type 0} (out_name : O → N) (in_name : I → N) (s : State (Load N O I)) (p : Past (Given N O I) N S) (spare : ℕ) (o : ObjId) (at : Endpoint) (a : Answered N S) (plane : IsPlane out_name in_name s p spare)
    (is_open : IsOpenSocket (obj (control_of p).rows o.0)) (silent : IsSilent a) (free : refusal_in (reply_of (control_of p) (Disconnect o at)) ≡ None) where
  abbrev pub strikes_with : (h : Holding N) → HasWhat p h → h.holds o.0 ≡ true → StrikesWith out_name in_name s h o.0
  strikes_with h has lent = record {
    control = control_of p;
    names = name_of (items_of p);
    stands = plane.history.stands;
    has = has;
    kept = kept_past p plane.history.run;
    lent = lent;
    may = record { lives = is_open.lives; room = plane.history.room };
  }

  module _ (t : State (Load N O I)) (k : Holding N) (struck : IsStruck out_name in_name (name_of (items_of p)) (strikes_first o.0 at (is_connect_to at) (control_of p)) s t k) where
    abbrev did : Did N S
    did = Asked (Disconnect o at) Done a

    fits : Fits (control_of p) did
    fits = record {
      may = (is_open, sym (disconnect_done (control_of p) o at free));
      answered = silent_answered (control_of p) did silent refl refl silent.settled silent.output;
    }

    pub disconnects : IsPlane out_name in_name t (with_event did p) spare
    disconnects =
        one_plane out_name in_name s t p did spare spare plane
        (one_more s t p did spare spare plane.history (record {
          fits = fits;
          stands = struck.stands;
          room = λ m. (let put = loaded_capacity out_name in_name (name_of (items_of p)) s.boxes t.boxes struck.puts m in omega (arith, put));
          entries = omega arith;
          objects = (let few = plane.history.objects in omega (arith, few));
          pairs = (let few = plane.history.pairs in omega (arith, few));
          boxes = (let many = struck.puts.many in omega (arith, many));
        }))
        (tells_no_names (items_of p) did silent) (loaded_carried out_name in_name (items_of p) (control_of p) s.boxes t.boxes struck.puts plane.carried) struck.ends refl

    pub disconnects_given : given_in t.boxes ≡ given_in s.boxes
    disconnects_given = loaded_given out_name in_name (name_of (items_of p)) s.boxes t.boxes struck.puts

    pub disconnects_keeps : HasWhat (with_event did p) k
    disconnects_keeps = has_then p did (strikes_first o.0 at (is_connect_to at) (control_of p)) k refl struck.has
