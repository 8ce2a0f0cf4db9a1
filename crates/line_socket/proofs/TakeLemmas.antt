-- A lent socket behind the taking of its oldest letter, or behind a look that found its mailbox empty.
use Rattle.std.proofs.Common.{◌≡◌, ◌∙◌, ◌+◌, ◌&&◌, ℕ, Bool, true, false, List, ◌∷◌, [], ◌++◌, filter, map, not, Option, Some, None, if◌then◌else◌, refl, sym, ap, subst}
use Rattle.zq_base.specs.declared.ids.EndId.{EndId}
use Rattle.spec_pattern.specs.PipeStep.{Seal}
use Rattle.spec_control.specs.declared.entry.Did.TheVariants.{Delivered}
use Rattle.spec_control.specs.declared.entry.Item.TheVariants.{Seen}
use Rattle.spec_control.specs.declared.entry.SeenEmpty.TheVariants.{Mailbox}
use Rattle.spec_control.specs.declared.entry.Sight.{Sight}
use Rattle.spec_control.specs.Control.{Control, place_of}
use Rattle.spec_control.specs.Moments.{Moment}
use Rattle.desk.specs.declared.given.Given.{Given}
use Rattle.desk.specs.Desk.{CountsWith, TakesOne, FindsNothing, GivesOrNot, by_caller, slot_after}
use Rattle.desk.specs.declared.delivery.Delivery.{Delivery}
use Rattle.desk.specs.declared.delivery.Delivery.TheVariants.{Done, Empty}
use Rattle.msg_pipe.specs.Known.{Known}
use Rattle.any_sock.specs.declared.any_sock.AnySock.{AnySock}
use Rattle.any_sock.specs.Over.{over}
use Rattle.any_sock.specs.Told.{IsToldByPeers}
use Rattle.sock_core.specs.declared.sock.SockCore.{SockCore}
use Rattle.sock_calls.specs.Calls.{counts_by, holding_of, owner_of}
use Rattle.sock_calls.specs.Passing.{Passes}
use Rattle.spec_run.specs.Act.{Act, Said, Step}
use Rattle.spec_run.specs.Event.{acts_said, is_asked_once}
use Rattle.line_calls.specs.Reading.{LeavesReader}
use Rattle.line_calls.specs.Steps.{Takes, Passes as PassesActs}
use Rattle.line_calls.specs.declared.found.Found.{Found}
use Rattle.line_calls.specs.declared.found.Found.TheVariants.{Letter, Nothing}
use Rattle.line_calls.specs.declared.found.Reader.{Reader}
use Rattle.line_socket.specs.Standing.{IsWhole, kind_told}
use Rattle.plain_desk.specs.Lent.{Lent, moments_of}
use Rattle.socket_laws.specs.Calling.{opens_none}
use Rattle.line_socket.specs.Owned.{LentParts, IsLentTo, IsThereFor, Agrees, MayTakeEnds, view_of}
use Rattle.line_socket.specs.Called.{IsCalled}
use Rattle.line_socket.specs.Leads.{Leads}
use Rattle.line_socket.specs.Readers.{readers_from, IsNewReader, IsFoundBy}
use Rattle.line_socket.specs.Ready.{IsReady, HasPeers, AreTold}
use Rattle.line_socket.proofs.MayLemmas.{may_behind}
use Rattle.line_socket.proofs.NewReaderLemmas.{reader_told}
use Rattle.line_socket.proofs.ThroughLemmas.{was, is_now, GoesThrough, gone_through}
use Rattle.line_socket.proofs.ToItLemmas.{to_it}

module _ {W N O I S T : Type 0} (K : Known S O I N) where
  -- it was found so, the socket is lent and ready still, and ends on their way may join it still
  pub record HasTaken (found : Found) (old new : LentParts W N O I S T) : Type 0 where
    pub takes : Takes (Leads K) view_of found old new
    pub reader : LeavesReader (readers_from new.socket) found
    pub agrees : Agrees K new
    pub ready : IsReady new
    pub may : MayTakeEnds K old → MayTakeEnds K new

-- a look writes no delimiter
none_both : (f : EndId → Bool) (es : List EndId) → filter (λ e. f e && not (f e)) es ≡ []
none_both f [] = refl
none_both f (e ∷ es) = ap (λ (b : Bool). if b then e ∷ filter (λ x. f x && not (f x)) es else filter (λ x. f x && not (f x)) es) (not_both (f e)) ∙ none_both f es where
  not_both : (b : Bool) → b && not b ≡ false
  not_both true = refl
  not_both false = refl

look_alone : {N T : Type 0} (c : Control) (sight : Sight) → acts_said {N = N} {S = T} (record { found = c; item = Seen sight }) ≡ Said (record { found = c; item = Seen sight }) ∷ []
look_alone {N = N} {T = T} c sight = ap (λ (es : List EndId). Said (record { found = c; item = Seen sight }) ∷ map (λ e. let a : Act N T = Step (Seal e) in a) es) (none_both (λ e. is_asked_once (place_of c e)) c.attached)

leaves_reader : (reading : ℕ → List EndId) (before : List EndId) (at : Option Reader) → IsNewReader reading before at → LeavesReader reading (Letter at)
leaves_reader reading before None new = tt
leaves_reader reading before (Some at) new = new.0

module _ {W N O I S T : Type 0} (K : Known S O I N) (before now : S) (d e : Lent (Given N O I) N T) (n : ℕ) where
  module _ {made : Bool} {may_make : EndId → ℕ → ℕ → Type 0} (s t : SockCore AnySock W N O I) (is : IsLentTo K before d n s) (called : IsCalled K made may_make before d (Some s) now e (Some t)) (told : IsToldByPeers s.kind) (whole_was : IsWhole (Some s)) (peered : HasPeers (moments_of d) s)
      (given : e.past.given ≡ d.past.given) (whole : IsWhole (Some t)) (passes : (ms : List (Moment N T)) → moments_of e ≡ moments_of d ++ ms → Passes over (Some s) (Some t) ms)
      (counts : CountsWith K.out_name (counts_by K before (Some s)) (moments_of d) (moments_of e) (holding_of kind_told (Some s))) where
    module _ (takes : TakesOne d.caller (slot_after s.number.0 (moments_of d)) (moments_of d) (moments_of e)) where
      abbrev taken : Moment N T
      taken = record { found = takes.found; item = by_caller d.caller (Delivered (slot_after s.number.0 (moments_of d)) takes.letter takes.answered) }

      -- the letter is for it
      for_it : takes.letter.to.0 ≡ s.number.0
      for_it = to_it d e taken (record { before = is.order; behind = called.order; grows = called.grows; one_more = takes.one_more }) s.number.0 is.owned.is_open takes.letter takes.answered refl

      took : GoesThrough K before now d e n taken (Some s) (Some t) (n + 1)
      took = gone_through K before now d e n s t is called taken takes.one_more for_it refl (opens_none refl) (counts taken takes.one_more) told whole_was peered given whole passes

      taken_so : (ends : List EndId) → ends ≡ readers_from (Some s) 0 → (at : Option Reader) → IsNewReader (readers_from (Some t)) ends at
          → HasTaken K (Letter at) (record { pipes = before; desk = d; socket = Some s; since = n }) (record { pipes = now; desk = e; socket = Some t; since = n + 1 })
      taken_so ends are at new = record {
        takes = record {
          taken = taken;
          letter = takes.letter;
          delivery = record { by = d.caller; answered = takes.answered; item_is = refl };
          behind = reader_told K before now d e n s t is called taken takes.one_more for_it refl (opens_none refl) (counts taken takes.one_more) (slot_after s.number.0 (moments_of d)).0 takes.letter (record { by = d.caller; answered = takes.answered; item_is = refl }) ends are at new;
          passes = took.passes;
        };
        reader = leaves_reader (readers_from (Some t)) ends at new;
        agrees = took.agrees;
        ready = took.ready;
        may = λ may. may_behind K before now d e n s t is called taken takes.one_more for_it refl (opens_none refl) (counts taken takes.one_more) refl may (n + 1);
      }

    module _ (finds : FindsNothing d.caller (Mailbox (slot_after s.number.0 (moments_of d))) (moments_of d) (moments_of e)) where
      abbrev looked : Moment N T
      looked = record { found = finds.looks.found; item = Seen finds.sight }

      empty_so : HasTaken K Nothing (record { pipes = before; desk = d; socket = Some s; since = n }) (record { pipes = now; desk = e; socket = Some t; since = n + 1 })
      empty_so =
          let m = gone_through K before now d e n s t is called looked finds.looks.one_more tt refl (opens_none refl) tt told whole_was peered given whole passes in
          record {
            takes = record {
              look = looked;
              look_is = record { sight = finds.sight; empty_is = finds.looks.looked_at; item_is = refl };
              passes = subst (λ (acts : List (Act N T)). PassesActs (Leads K) view_of (was K before now d e n (Some s)) acts (is_now K before now d e n (Some t) (n + 1))) (look_alone finds.looks.found finds.sight) m.passes;
            };
            reader = tt;
            agrees = m.agrees;
            ready = m.ready;
            may = λ may. may_behind K before now d e n s t is called looked finds.looks.one_more tt refl (opens_none refl) tt refl may (n + 1);
          }

  found_so : {made : Bool} {may_make : EndId → ℕ → ℕ → Type 0} → (s t : SockCore AnySock W N O I) → IsLentTo K before d n s → IsCalled K made may_make before d (Some s) now e (Some t) → IsToldByPeers s.kind → IsReady (was K before now d e n (Some s)) → e.past.given ≡ d.past.given → IsWhole (Some t)
      → ((ms : List (Moment N T)) → moments_of e ≡ moments_of d ++ ms → Passes over (Some s) (Some t) ms)
      → CountsWith K.out_name (counts_by K before (Some s)) (moments_of d) (moments_of e) (holding_of kind_told (Some s)) → (ends : List EndId) → ends ≡ readers_from (Some s) 0
      → (delivery : Delivery) (found : Found) → GivesOrNot d.caller (slot_after s.number.0 (moments_of d)) delivery (moments_of d) (moments_of e) → IsFoundBy (readers_from (Some t)) ends delivery found
      → HasTaken K found (was K before now d e n (Some s)) (is_now K before now d e n (Some t) (n + 1))
  found_so s t is called told ready given whole passes counts ends are Done (Letter at) gives by = taken_so s t is called told ready.whole ready.peers given whole passes counts gives ends are at by
  found_so s t is called told ready given whole passes counts ends are Done Nothing gives by = absurd by
  found_so s t is called told ready given whole passes counts ends are Empty (Letter at) gives by = absurd by
  found_so s t is called told ready given whole passes counts ends are Empty Nothing gives by = empty_so s t is called told ready.whole ready.peers given whole passes counts gives

  -- the same of a socket that is there
  pub has_taken : {made : Bool} {may_make : EndId → ℕ → ℕ → Type 0} → (old new : Option (SockCore AnySock W N O I)) → IsThereFor K before d n old → AreTold old → IsReady (was K before now d e n old) → IsCalled K made may_make before d old now e new
      → e.past.given ≡ d.past.given → (IsWhole old → IsWhole new) → ((ms : List (Moment N T)) → moments_of e ≡ moments_of d ++ ms → Passes over old new ms)
      → CountsWith K.out_name (counts_by K before old) (moments_of d) (moments_of e) (holding_of kind_told old)
      → (delivery : Delivery) → GivesOrNot d.caller (slot_after (owner_of old) (moments_of d)) delivery (moments_of d) (moments_of e) → (ends : List EndId) → ends ≡ readers_from old 0 → (found : Found) → IsFoundBy (readers_from new) ends delivery found
      → (k : ℕ) → k ≡ n + 1 → HasTaken K found (was K before now d e n old) (is_now K before now d e n new k)
  has_taken None new is told ready called given whole passes counts delivery gives ends are found by k more = absurd is
  has_taken (Some s) None is told ready called given whole passes counts delivery gives ends are found by k more = absurd called.fits
  has_taken (Some s) (Some t) is told ready called given whole passes counts delivery gives ends are found by k more =
      subst (λ (j : ℕ). HasTaken K found (was K before now d e n (Some s)) (is_now K before now d e n (Some t) j)) (sym more)
      (found_so s t is called told ready given (whole ready.whole) passes counts ends are delivery found gives by)
