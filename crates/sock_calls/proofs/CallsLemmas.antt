-- A socket that is moved for a call, a call that does nothing, and a close.
use Rattle.std.proofs.Common.{◌≡◌, ℕ, Bool, true, false, List, [], ◌∷◌, ◌++◌, length, length-append, get_or, Option, Some, None, refl, sym, ap, ◌∙◌, subst, arith}
use Rattle.std.specs.Prelude.{◌==◌, ◌&&◌, is_some, flat_map, map, if◌then◌else◌}
use Rattle.std.proofs.Math.Logic.{∥∥₁_elim, ∥∥₁_map}
use Rattle.zq_base.specs.declared.ids.EndId.{EndId}
use Rattle.end_table.proofs.PlaceLemmas.{place_within}
use Rattle.end_table.specs.Changes.{AreMakings}
use Rattle.end_table.specs.declared.changes.PipeChange.{PipeChange}
use Rattle.end_table.proofs.ChangeProps.{changes_prop, were_held_prop, made_out}
use Rattle.sock_core.specs.Came.{HasCome}
use Rattle.sock_core.specs.Noted.{AreMade, HasDone}
use Rattle.sock_core.specs.Standing.{standing_joins}
use Rattle.sock_core.specs.Way.{way_in}
use Rattle.sock_calls.proofs.CameLemmas.{come_by, come_made, come_none}
use Rattle.sock_core.proofs.CameLemmas.{came_none}
use Rattle.sock_core.proofs.DoneLemmas.{tells_none}
use Rattle.std.proofs.lemmas.Bool.{eq-eqb}
use Rattle.std.proofs.lemmas.List.{append-nil}
use Rattle.zq_base.specs.declared.ids.ObjId.{ObjId}
use Rattle.zq_base.specs.declared.kind.Kind.{Kind}
use Rattle.spec_control.specs.declared.entry.Answered.{Answered}
use Rattle.spec_control.specs.declared.entry.Did.TheVariants.{Asked}
use Rattle.spec_control.specs.declared.request.Reply.{Reply}
use Rattle.spec_control.specs.declared.request.Req.TheVariants.{Close}
use Rattle.spec_control.specs.Control.{Control}
use Rattle.spec_control.specs.Has.{has_then, has_over, has_after}
use Rattle.spec_control.specs.Moments.{Moment, items_in, left_by}
use Rattle.msg_pipe.specs.Known.{Known, IsThere}
use Rattle.desk.specs.declared.given.Given.{Given}
use Rattle.desk.specs.TakingOver.{IsGivenWith}
use Rattle.end_table.specs.Others.{IsNoneWritten, IsUnsettled}
use Rattle.desk.specs.Holding.{Holding}
use Rattle.desk.specs.Turns.{TurnsBy, turned_in}
use Rattle.desk.specs.Desk.{heard_with, HasWhatTheySay, KeepsUp, AsksOnce, by_caller, came_with}
use Rattle.spec_pattern.specs.Half.{Writing, Reading}
use Rattle.end_table.proofs.OthersLemmas.{places_stay, leaves_pipes, others_sound, halves_fitting}
use Rattle.sock_core.proofs.FormLemmas.{sound_of, are_sound}
use Rattle.sock_core.specs.declared.sock.SockCore.{SockCore}
use Rattle.sock_calls.specs.Calls.{owner_of, holding_of, FitsPipes, LeavesOthers, HaveDone, OnlyMake, HasNone}
use Rattle.sock_calls.specs.Others.{IsGivenElse, LeavesFit, LeavesJoining, LeavesGiven}

never : false ≡ true → ⊥
never f = Prim.grind arith

none_some : {X : Type 0} {x : X} → None ≡ Some x → ⊥
none_some e = Prim.grind arith

left_of : (b c : Bool) → c ≡ true → b && c ≡ false → b ≡ false
left_of false c is e = refl
left_of true c is e = absurd (never (sym e ∙ is))

-- a list with more behind it that is the same has none
pub none_more : {A : Type 0} (xs ys : List A) → xs ≡ xs ++ ys → ys ≡ []
none_more xs [] e = refl
none_more xs (y ∷ ys) e = absurd (let n = ap length e in let a = length-append xs (y ∷ ys) in omega (arith, n, a))

turned_none : {N : Type 0} (h : Holding N) → TurnsBy [] h h
turned_none h = record { turns = sym (append-nil h.turns); sealed = sym (append-nil h.sealed) }

module _ {N S : Type 0} where
  -- nothing was done
  pub keeps_up_none : (by : ℕ) (moments : List (Moment N S)) (h : Holding N) → HasWhatTheySay by moments h → KeepsUp by moments moments h h
  keeps_up_none by moments h has = record {
    has = has;
    turned = λ more e. subst (λ (l : List (Moment N S)). TurnsBy (flat_map (λ m. turned_in m.found (left_by m)) l) h h) (sym (none_more moments more e)) (turned_none h);
    came = λ more e. subst (λ (l : List (Moment N S)). h.joined ≡ h.joined ++ flat_map (λ m. came_with m.item) l) (sym (none_more moments more e)) (sym (append-nil h.joined));
    objects = record {
      one = λ m e. absurd (let n = ap length e in let a = length-append moments (m ∷ []) in omega (arith, n, a));
      none = λ e i. (refl, refl);
    };
    heard = λ more e. subst (λ (l : List (Moment N S)). h.heard ≡ h.heard ++ flat_map (λ m. heard_with m.item m.found (left_by m)) l) (sym (none_more moments more e)) (sym (append-nil h.heard));
  }

  -- nobody has a socket behind its close
  closed_over : (by : ℕ) (o : ObjId) (reply : Reply) (answered : Answered N S) (found : Control) (had : Option ℕ) (past : List (Moment N S)) → has_over o.0 had (items_in (past ++ record { found = found; item = by_caller by (Asked (Close o) reply answered) } ∷ [])) ≡ None
  closed_over by o reply answered found had [] = ap (λ (b : Bool). if b then None else had) (eq-eqb o.0 o.0 refl)
  closed_over by o reply answered found had (m ∷ past) = closed_over by o reply answered found (has_then o.0 m.item had) past

  pub closed_not_held : (by now : ℕ) (o : ObjId) (reply : Reply) (old new : List (Moment N S)) (h : Holding N) → AsksOnce by (Close o) reply old new → HasWhatTheySay now new h → h.holds o.0 ≡ false
  closed_not_held by now o reply old new h asks has = held (h.holds o.0) refl where
    nobody : has_after o.0 (items_in new) ≡ None
    nobody = subst (λ (l : List (Moment N S)). has_after o.0 (items_in l) ≡ None) (sym asks.one_more) (closed_over by o reply asks.answered asks.found None old)

    held : (b : Bool) → h.holds o.0 ≡ b → h.holds o.0 ≡ false
    held false e = e
    held true e = absurd (none_some (sym nobody ∙ has.objects o.0 e))

module _ {C W N O I S : Type 0} (K : Known S O I N) where
  -- a socket that is not held was closed, and has no end
  pub has_none : (kind : C → Kind) (peers : C → List ℕ) (pipes : S) (s : Option (SockCore C W N O I)) (i : ℕ) → FitsPipes K peers pipes s → owner_of s ≡ i → (holding_of kind s).holds i ≡ false → HasNone s
  has_none kind peers pipes None i fits is free = absurd fits
  has_none kind peers pipes (Some s) i fits is free = (closed, fits.gone closed) where
    closed : s.is_open ≡ false
    closed = left_of s.is_open (i == s.number.0) (eq-eqb i s.number.0 (sym is)) free

  -- a socket that fits is there
  pub is_there : (peers : C → List ℕ) (pipes : S) (s : Option (SockCore C W N O I)) → FitsPipes K peers pipes s → is_some s ≡ true
  is_there peers pipes None fits = absurd fits
  is_there peers pipes (Some s) fits = refl

  -- nothing was done to it
  pub leaves_none : (peers : C → List ℕ) (pipes : S) (s : Option (SockCore C W N O I)) → FitsPipes K peers pipes s → LeavesOthers K s s pipes pipes
  leaves_none peers pipes None fits = absurd fits
  leaves_none peers pipes (Some s) fits = leaves_pipes K pipes s.ends s.ends (places_stay s.ends.places.items s.ends.places.items refl) refl

  -- ---- the others

  pub others_fit : (peers : C → List ℕ) → LeavesFit C W K peers
  others_fit peers None new other before now leaves apart fits = absurd leaves
  others_fit peers (Some a) None other before now leaves apart fits = absurd leaves
  others_fit peers (Some a) (Some b) None before now leaves apart fits = absurd apart
  others_fit peers (Some a) (Some b) (Some s) before now leaves apart fits = record {
    sound = are_sound K now s.ends.rows.items s.ends.places.items
        (others_sound K before now a.ends b.ends s.ends.rows.items s.ends.places.items leaves apart (sound_of K before s.ends.rows.items s.ends.places.items fits.sound));
    peers_are = fits.peers_are;
    room = fits.room;
    gone = fits.gone;
    stopped_is = fits.stopped_is;
    flagged = fits.flagged;
    in_use = fits.in_use;
    settled_are = fits.settled_are;
    sealed_are = fits.sealed_are;
  }

  pub others_join : LeavesJoining C W K
  others_join None new was other before now h leaves apart may = absurd leaves
  others_join (Some a) None was other before now h leaves apart may = absurd leaves
  others_join (Some a) (Some b) was None before now h leaves apart may = absurd apart
  others_join (Some a) (Some b) None (Some s) before now h leaves apart may = absurd may
  others_join (Some a) (Some b) (Some w) (Some s) before now h leaves apart may =
      halves_fitting K before now a.ends b.ends w.ends.places.items s.ends.places.items h leaves apart.0 apart.1 may

  pub others_given : LeavesGiven C W K
  others_given None new before now gs leaves apart given = absurd leaves
  others_given (Some a) None before now gs leaves apart given = absurd leaves
  others_given (Some a) (Some b) before now gs leaves apart given = λ k d lt. one (get_or gs k d) (apart k d lt) (given k d lt)
    where
      one : (g : Given N O I) → IsGivenElse K a.ends b.ends g → IsGivenWith K before g → IsGivenWith K now g
      one g other is = record {
        read_there = leaves.read (K.in_name g.input) other.ins is.read_there;
        met = λ m. ap (λ (r : Reading). r.ended) (leaves.ins g.input is.read_there other.ins) ∙ is.met m;
        out_is = is.out_is;
        written_there = λ o e. leaves.written g.written (other.unsettled (ap is_some e)) (is.written_there o e);
        unsealed = λ o e s.
            ap (λ (v : Writing). v.sealed) (leaves.outs o (subst (IsThere K before) (sym (is.out_is o e)) (is.written_there o e))
            (subst (IsNoneWritten K a.ends b.ends) (sym (is.out_is o e)) (other.outs (ap is_some e))) (subst (IsUnsettled K b.ends) (sym (is.out_is o e)) (other.unsettled (ap is_some e))))
            ∙ is.unsealed o e s;
      }

-- what was done is told in one way
pub done_so : {C W N O I S : Type 0} → IsSet N → IsSet S → (K : Known S O I N) (made comes : Bool) (may_make : EndId → ℕ → ℕ → Type 0) (before now : S) (a b : SockCore C W N O I) (xs : List (PipeChange O I × S)) → (made ≡ true → comes ≡ false)
    → HasDone K before a.ends.places.items (map (λ x. x.0) a.sealed.items) xs now b.ends.places.items (map (λ x. x.0) b.sealed.items) → ∥ HasCome K made comes before (length a.ends.places.items) (standing_joins a.joins.items) (way_in b.way.items).joined (standing_joins b.joins.items) xs b.ends.places.items ∥₁
    → (made ≡ true → AreMade K may_make xs (length a.ends.places.items) b.ends.places.items)
    → HaveDone K made may_make (Some a) (Some b) before now
done_so n_set s_set K made comes may_make before now a b xs makes h come tied = record {
  changes = xs;
  does = ∥∥₁_elim h.does (changes_prop K n_set s_set b.ends.places.items before xs now) (λ d. d);
  seals = h.seals;
  were_held = ∥∥₁_elim h.were_held (were_held_prop a.ends.places.items xs) (λ w. w);
  came = come_by K made comes before (length a.ends.places.items) (standing_joins a.joins.items) (standing_joins b.joins.items) (way_in b.way.items).joined xs b.ends.places.items makes come;
  stands = ∥∥₁_map come (λ c. ((way_in b.way.items).joined, come_made K made comes before (length a.ends.places.items) (standing_joins a.joins.items) (standing_joins b.joins.items) (way_in b.way.items).joined xs b.ends.places.items makes c));
  tied = λ is k p le at held. made_out K n_set may_make xs p.end p.written p.read (tied is k p le at held);
}

-- and no more than to make some, where it was no more
pub makes_so : {C W N O I S : Type 0} (n_set : IsSet N) (s_set : IsSet S) (K : Known S O I N) (made comes : Bool) (may_make : EndId → ℕ → ℕ → Type 0) (before now : S) (a b : SockCore C W N O I) (xs : List (PipeChange O I × S)) (makes : made ≡ true → comes ≡ false)
    (h : HasDone K before a.ends.places.items (map (λ x. x.0) a.sealed.items) xs now b.ends.places.items (map (λ x. x.0) b.sealed.items)) (come : ∥ HasCome K made comes before (length a.ends.places.items) (standing_joins a.joins.items) (way_in b.way.items).joined (standing_joins b.joins.items) xs b.ends.places.items ∥₁)
    (tied : made ≡ true → AreMade K may_make xs (length a.ends.places.items) b.ends.places.items)
    → AreMakings xs → OnlyMake K made may_make (Some a) (Some b) before now (done_so n_set s_set K made comes may_make before now a b xs makes h come tied)
unfolding done_so
makes_so n_set s_set K made comes may_make before now a b xs makes h come tied only = only

-- nothing was done
pub done_nothing : {C W N O I S : Type 0} (K : Known S O I N) (made : Bool) (may_make : EndId → ℕ → ℕ → Type 0) (pipes : S) (s : Option (SockCore C W N O I)) → is_some s ≡ true → HaveDone K made may_make s s pipes pipes
done_nothing K made may_make pipes None there = absurd (never there)
done_nothing K made may_make pipes (Some s) there = record {
  changes = [];
  does = refl;
  seals = tells_none (map (λ x. x.0) s.sealed.items);
  were_held = tt;
  came = λ js is. come_none K made pipes (length s.ends.places.items) js s.ends.places.items refl;
  stands = ∣ ([], came_none K made false pipes (length s.ends.places.items) (standing_joins s.joins.items) [] [] s.ends.places.items refl refl refl) ∣₁;
  tied = λ is k p le at held. let w = place_within s.ends.places.items k p at in absurd (omega (arith, le, w));
}

-- what may be made may be made otherwise
pub done_as : {C W N O I S : Type 0} (K : Known S O I N) (made : Bool) (may_make might : EndId → ℕ → ℕ → Type 0) → ((e : EndId) (written read : ℕ) → may_make e written read → might e written read)
    → (old new : Option (SockCore C W N O I)) (before now : S) → HaveDone K made may_make old new before now → HaveDone K made might old new before now
done_as K made may_make might turns None new before now h = absurd h
done_as K made may_make might turns (Some a) None before now h = absurd h
done_as K made may_make might turns (Some a) (Some b) before now h = record {
  changes = h.changes;
  does = h.does;
  seals = h.seals;
  were_held = h.were_held;
  came = h.came;
  stands = h.stands;
  tied = λ is k p le at held. let m = h.tied is k p le at held in record {
    written = m.written;
    read = m.read;
    out = m.out;
    other = m.other;
    writes = m.writes;
    writes_it = m.writes_it;
    reads = m.reads;
    reads_it = m.reads_it;
    may = ∥∥₁_map m.may (turns p.end m.written m.read);
  };
}

pub makes_as : {C W N O I S : Type 0} (K : Known S O I N) (made : Bool) (may_make might : EndId → ℕ → ℕ → Type 0) (turns : (e : EndId) (written read : ℕ) → may_make e written read → might e written read)
    → (a b : SockCore C W N O I) (before now : S) (h : HaveDone K made may_make (Some a) (Some b) before now) → OnlyMake K made may_make (Some a) (Some b) before now h → OnlyMake K made might (Some a) (Some b) before now (done_as K made may_make might turns (Some a) (Some b) before now h)
unfolding done_as
makes_as K made may_make might turns a b before now h only = only
