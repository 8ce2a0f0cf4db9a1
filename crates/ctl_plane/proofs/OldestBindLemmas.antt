-- An end whose bind is the oldest command of a mailbox, in a PipeBind or a Plug: what that needs, and how many ends are on their way then.
use Rattle.std.specs.Prelude.{◌≡◌, ◌≢◌, ◌<◌, ◌≤◌, ◌+◌, ◌==◌, ◌&&◌, ◌^◌, ℕ, Bool, true, false, not, cond, List, Option, Some, None, All, length, sum_by, refl}
use Rattle.std.proofs.Common.{arith, sym, ap, ◌∙◌, subst, inl, inr}
use Rattle.std.proofs.lemmas.List.Elements.{All-weaker}
use Rattle.zq_base.specs.Ends.{other_end}
use Rattle.zq_base.specs.declared.ids.EndId.{EndId}
use Rattle.zq_base.specs.declared.ids.ObjId.{ObjId}
use Rattle.spec_control.specs.declared.entry.Answered.{Answered}
use Rattle.spec_control.specs.declared.letter.Letter.{Letter}
use Rattle.spec_control.specs.declared.letter.Word.{Word}
use Rattle.spec_control.specs.declared.letter.Word.TheVariants.{Own, Plug, TermReq, Term, TermAck, PipeBind, PipeTerm, PipeTermAck, Stop, Reap}
use Rattle.spec_control.specs.PairPhase.{BindCame}
use Rattle.spec_control.specs.Place.{Away, is_away}
use Rattle.spec_control.specs.Row.{PlugComes}
use Rattle.spec_control.specs.Rows.{PairRow, no_pair, obj, pair, end_place, of_ends, bind_waits}
use Rattle.spec_control.specs.Control.{Control, attach, is_end, link, place_of}
use Rattle.spec_control.specs.After.{after, kind_answer, without_front}
use Rattle.spec_control.specs.ControlRun.{Fits}
use Rattle.spec_control.specs.declared.entry.Did.TheVariants.{Delivered}
use Rattle.zq_base.specs.declared.ids.SlotId.{SlotId}
use Rattle.control_laws.proofs.ListLemmas.{never, clash}
use Rattle.control_laws.proofs.RowLemmas.{pair_there}
use Rattle.control_laws.specs.Kept.{Kept}
use Rattle.control_laws.proofs.AskLemmas.{same_end}
use Rattle.control_laws.proofs.GoLemmas.{greet_goes}
use Rattle.control_laws.proofs.GuardLemmas.{may_come}
use Rattle.control_laws.proofs.PairWeighLemmas.{binds_away}
use Rattle.control_laws.specs.Coming.{ComesToEnd}
use Rattle.desk.specs.declared.halves.Halves.{Halves}
use Rattle.desk.specs.declared.halves.NamedHalves.{NamedHalves}
use Rattle.desk.specs.declared.load.Load.{Load}
use Rattle.desk.specs.declared.load.Load.TheVariants.{Halves as IsHalves, Plug as IsPlug, Writer, Ends}
use Rattle.desk.specs.Holding.{Holding}
use Rattle.desk.specs.Load.{AreHalvesOf, BringsEnds, BringsHalvesOf, BringsPlugOf, BringsWriterTo}
use Rattle.ctl_state.specs.declared.belongings.Belongings.{Belongings}
use Rattle.ctl_state.specs.declared.state.State.{State}
use Rattle.ctl_state.specs.Lists.{belongings_at}
use Rattle.control_laws.proofs.AttachedOnceLemmas.{AreOld, IsOld}
use Rattle.control_laws.proofs.MoveLemmas.{is_at}
use Rattle.ctl_moves.specs.Attaching.{BindsAt, FitsLoad, IsBound, IsOnItsWay, KeepsPlaces, brings_end}
use Rattle.ctl_plane.specs.Carried.{BindsFit}
use Rattle.ctl_moves.proofs.BoundLemmas.{binds_gone, one_waits}
use Rattle.ctl_plane.proofs.OwedLemmas.{binds_after, binds_go, word_binds}

-- ---- the bind of an end may come
module _ (c : Control) (kept : Kept c) (to : ℕ) (e : EndId) (comes : ComesToEnd c to e BindCame) where
  pub on_its_way : place_of c e ≡ Away
  on_its_way = binds_away (end_place (pair c.rows e.pair.0) e.a) (end_place (pair c.rows e.pair.0) (not e.a)) comes.comes

  pub has_pair : e.pair.0 < length c.rows.pairs
  has_pair = pair_there c.rows e.pair.0 e.a BindCame comes.comes

  -- the root has no end
  pub no_root : to ≢ 0
  no_root zero_is =
      elim (kept.shape.ends e.pair.0 e.a) [
        | inl w ↦ absurd (some_none (sym w.1 ∙ ap (λ (n : ℕ). (obj c.rows n).owner) (comes.owner ∙ zero_is) ∙ kept.shape.root))
        | inr none ↦ absurd (clash (is_away (place_of c e)) (ap is_away on_its_way) (ap (λ (p : PairRow). is_away (end_place p e.a)) none ∙ gone e.a))
      ]
    where
      some_none : {w : ℕ} → Some w ≡ None → ⊥
      some_none f = Prim.grind arith

      gone : (a : Bool) → is_away (end_place no_pair a) ≡ false
      gone true = refl
      gone false = refl

  -- an end that is attached is another
  not_attached : AreOld c → All (λ d. is_end d e ≡ false) c.attached
  not_attached old = All-weaker (IsOld c) (λ d. is_end d e ≡ false) other c.attached old
    where
      other : (d : EndId) → IsOld c d → is_end d e ≡ false
      other d o = by (is_end d e) refl
        where
          by : (b : Bool) → is_end d e ≡ b → b ≡ false
          by true same = absurd (never (sym (ap is_at (sym (ap (place_of c) (sym (same_end d e same))) ∙ on_its_way)) ∙ o.at))
          by false differ = refl

  pub way_at : {L : Type 0} (s : State L) → AreOld c → length c.rows.pairs < 2 ^ 30 → ((i : ℕ) → sum_by (of_ends bind_waits i) c.rows.pairs ≤ (belongings_at s.objects.lists i).ends.spare) → IsOnItsWay c s to e
  way_at s old few fit = record {
    owner = comes.owner;
    away = on_its_way;
    within = has_pair;
    fresh = not_attached old;
    few = few;
    place = (let one = one_waits c e has_pair on_its_way to comes.owner in let most = fit to in omega (arith, one, most));
  }

-- the same once the command was taken
pub way_taken : {L : Type 0} (slot : ℕ) (c : Control) (s : State L) (at : ℕ) (e : EndId) → IsOnItsWay c s at e → IsOnItsWay (without_front slot c) s at e
way_taken slot c s at e w = record { owner = w.owner; away = w.away; within = w.within; fresh = w.fresh; few = w.few; place = w.place }

pub bind_taken : {L N : Type 0} (slot : ℕ) (c : Control) (s : State L) (h : Holding N) (at : ℕ) (e : EndId) → BindsAt c s h at e → BindsAt (without_front slot c) s h at e
bind_taken slot c s h at e b = record { way = way_taken slot c s at e b.way; lent = b.lent; lives = b.lives; room = b.room; kind = b.kind }

module _ {N O I : Type 0} (out_name : O → N) (in_name : I → N) where
  -- with the halves that come
  pub bound_by : (names : EndId → Option N) (c : Control) (s : State (Load N O I)) (h : Holding N) (at : ℕ) (e : EndId) (load : Option (Load N O I)) → BringsHalvesOf out_name in_name names e load → BindsAt c s h at e →
      IsBound out_name in_name names c s h at e load
  bound_by names c s h at e (Some (IsHalves x)) brings b = record { half = x; brings = refl; are = brings; binds = b }
  bound_by names c s h at e (Some (IsPlug address x)) brings b = absurd brings
  bound_by names c s h at e (Some (Writer o)) brings b = absurd brings
  bound_by names c s h at e (Some (Ends p)) brings b = absurd brings
  bound_by names c s h at e None brings b = absurd brings

  module _ (names : EndId → Option N) (fits : Halves O I → Type 0) where
    abbrev Fit : EndId → Type 0
    Fit e = (x : Halves O I) → names e ≡ Some (out_name x.out) → names (other_end e) ≡ Some (in_name x.input) → fits x

    these_fit : (e : EndId) (x : NamedHalves N O I) → AreHalvesOf out_name in_name names e x → Fit e → fits x.halves
    these_fit e x are all = all x.halves (are.written ∙ ap (λ (n : N). Some n) (sym are.out)) (are.read ∙ ap (λ (n : N). Some n) (sym are.input))

    pub fits_brought : (e : EndId) (load : Option (Load N O I)) → BringsHalvesOf out_name in_name names e load → Fit e → FitsLoad fits load
    fits_brought e (Some (IsHalves x)) brings all = these_fit e x brings all
    fits_brought e (Some (IsPlug address x)) brings all = absurd brings
    fits_brought e (Some (Writer o)) brings all = tt
    fits_brought e (Some (Ends p)) brings all = tt
    fits_brought e None brings all = tt

    pub fits_plug : (end : Option EndId) (load : Option (Load N O I)) → BringsPlugOf out_name in_name names end load → ((e : EndId) → end ≡ Some e → Fit e) → FitsLoad fits load
    fits_plug end (Some (IsHalves x)) brings all = absurd brings
    fits_plug end (Some (IsPlug address None)) brings all = tt
    fits_plug None (Some (IsPlug address (Some x))) brings all = absurd brings
    fits_plug (Some e) (Some (IsPlug address (Some x))) brings all = these_fit e x brings (all e refl)
    fits_plug end (Some (Writer o)) brings all = absurd brings
    fits_plug end (Some (Ends p)) brings all = absurd brings
    fits_plug end None brings all = absurd brings

    pub fits_writer : (e : EndId) (load : Option (Load N O I)) → BringsWriterTo out_name in_name names e load → FitsLoad fits load
    fits_writer e (Some (IsHalves x)) brings = absurd brings
    fits_writer e (Some (IsPlug address x)) brings = absurd brings
    fits_writer e (Some (Writer o)) brings = tt
    fits_writer e (Some (Ends p)) brings = tt
    fits_writer e None brings = tt

    pub fits_ends : (load : Option (Load N O I)) → BringsEnds out_name in_name names load → FitsLoad fits load
    fits_ends (Some (IsHalves x)) brings = absurd brings
    fits_ends (Some (IsPlug address x)) brings = absurd brings
    fits_ends (Some (Writer o)) brings = tt
    fits_ends (Some (Ends p)) brings = tt
    fits_ends None brings = tt

  pub fits_none : (load : Option (Load N O I)) (fits : Halves O I → Type 0) → load ≡ None → FitsLoad fits load
  fits_none load fits none = subst (λ (l : Option (Load N O I)). FitsLoad fits l) (sym none) tt

-- ---- how many ends are on their way then
module _ {N S : Type 0} (c : Control) (kept : Kept c) (slot : SlotId) (a : Answered N S) where
  -- one fewer to the object that an end came to
  binds_left : (to : ObjId) (word : Word) → Fits c (Delivered slot (record { to = to; word = word }) a) → (i : ℕ) →
      sum_by (of_ends bind_waits i) (after (Delivered slot (record { to = to; word = word }) a) c).rows.pairs + cond (brings_end word && to.0 == i) 1 0 ≤ sum_by (of_ends bind_waits i) c.rows.pairs
  binds_left to (Own child) fits i = let less = binds_after c (Delivered slot (record { to = to; word = Own child }) a) kept fits (word_binds to.0 (Own child)) i in omega (arith, less)
  binds_left to (Plug None) fits i = let less = binds_after c (Delivered slot (record { to = to; word = Plug None }) a) kept fits (word_binds to.0 (Plug None)) i in omega (arith, less)
  binds_left to (Plug (Some e)) fits i =
      let comes = (may_come c kept slot.0 fits.may.behind to.0 (Plug (Some e)) fits.may.oldest).1 in
      let plugged = link PlugComes to.0 (without_front slot.0 c) in
      let gone = binds_gone plugged e (has_pair c kept to.0 e comes) (on_its_way c kept to.0 e comes) i in
      let less = binds_go (attach BindCame e plugged) (after (Delivered slot (record { to = to; word = Plug (Some e) }) a) c) (greet_goes (kind_answer a.joined e) e (attach BindCame e plugged)) i in
      let mine = ap {B = ℕ} (λ (n : ℕ). cond (n == i) 1 0) comes.owner in
      omega (arith, gone, less, mine)
  binds_left to (TermReq child) fits i = let less = binds_after c (Delivered slot (record { to = to; word = TermReq child }) a) kept fits (word_binds to.0 (TermReq child)) i in omega (arith, less)
  binds_left to Term fits i = let less = binds_after c (Delivered slot (record { to = to; word = Term }) a) kept fits (word_binds to.0 Term) i in omega (arith, less)
  binds_left to (TermAck child) fits i = let less = binds_after c (Delivered slot (record { to = to; word = TermAck child }) a) kept fits (word_binds to.0 (TermAck child)) i in omega (arith, less)
  binds_left to (PipeBind e peer) fits i =
      let comes = may_come c kept slot.0 fits.may.behind to.0 (PipeBind e peer) fits.may.oldest in
      let gone = binds_gone (without_front slot.0 c) e (has_pair c kept to.0 e comes) (on_its_way c kept to.0 e comes) i in
      let less = binds_go (attach BindCame e (without_front slot.0 c)) (after (Delivered slot (record { to = to; word = PipeBind e peer }) a) c) (greet_goes (kind_answer a.joined e) e (attach BindCame e (without_front slot.0 c))) i in
      let mine = ap {B = ℕ} (λ (n : ℕ). cond (n == i) 1 0) comes.owner in
      omega (arith, gone, less, mine)
  binds_left to (PipeTerm e) fits i = let less = binds_after c (Delivered slot (record { to = to; word = PipeTerm e }) a) kept fits (word_binds to.0 (PipeTerm e)) i in omega (arith, less)
  binds_left to (PipeTermAck e) fits i = let less = binds_after c (Delivered slot (record { to = to; word = PipeTermAck e }) a) kept fits (word_binds to.0 (PipeTermAck e)) i in omega (arith, less)
  binds_left to Stop fits i = let less = binds_after c (Delivered slot (record { to = to; word = Stop }) a) kept fits (word_binds to.0 Stop) i in omega (arith, less)
  binds_left to (Reap socket) fits i = let less = binds_after c (Delivered slot (record { to = to; word = Reap socket }) a) kept fits (word_binds to.0 (Reap socket)) i in omega (arith, less)

  -- and they fit still
  pub binds_fit_left : (letter : Letter) → Fits c (Delivered slot letter a) → (old new : List Belongings) → KeepsPlaces letter.word letter.to.0 old new → BindsFit c old → BindsFit (after (Delivered slot letter a) c) new
  binds_fit_left letter fits old new places fit i =
      let less = binds_left letter.to letter.word fits i in
      let most = fit i in
      let room = places i in
      omega (arith, less, most, room)
