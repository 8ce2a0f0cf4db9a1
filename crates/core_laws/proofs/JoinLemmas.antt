-- Halves on their way to an open socket may join it still, behind calls on another that sent it none.
use Rattle.std.specs.Prelude.{◌≡◌, ◌≢◌, ℕ, Bool, true, false, not, List, Some}
use Rattle.std.proofs.Common.{sym, ap, ◌∙◌}
use Rattle.zq_base.specs.Ends.{other_end}
use Rattle.zq_base.specs.declared.ids.EndId.{EndId}
use Rattle.spec_control.specs.Place.{is_away}
use Rattle.control_laws.proofs.ListLemmas.{never}
use Rattle.ctl_moves.proofs.HeldLemmas.{other_twice}
use Rattle.spec_control.specs.Control.{id, owner_of, place_of}
use Rattle.spec_control.specs.Names.{name_of}
use Rattle.msg_pipe.specs.Known.{Known, IsElse, IsThere}
use Rattle.desk.specs.Lent.{has_writer}
use Rattle.desk.specs.declared.halves.Halves.{Halves}
use Rattle.desk.specs.TakingOver.{AreDistinct}
use Rattle.ctl_plane.specs.Past.{control_of}
use Rattle.desk.specs.Desk.{slot_after}
use Rattle.end_table.specs.declared.table.Place.{Place}
use Rattle.end_table.specs.declared.table.EndTable.{EndTable}
use Rattle.end_table.specs.Others.{AreElseFrom}
use Rattle.end_table.specs.Sound.{Fits, IsElseOf}
use Rattle.sock_core.specs.Noted.{WereRead}
use Rattle.sock_calls.proofs.CallsLemmas.{others_join}
use Rattle.plain_desk.specs.Lent.{coming_to, moments_of, HasSocket, IsOneOrder, Lent}
use Rattle.socket_laws.specs.Behind.{IsNoneOfIts, IsOfIts}
use Rattle.socket_laws.proofs.NewLemmas.{away, coming_ends_are_new, mine, there}
use Rattle.socket_laws.proofs.SocketLemmas.{kept_now}
use Rattle.core_laws.specs.Apart.{AreHeldBy, ArePlacesOf, IsHeldBy, IsPlaceOf}
use Rattle.core_laws.specs.Calls.{for_caller}
use Rattle.core_laws.specs.Laws.{ComingJoinStill}
use Rattle.core_laws.proofs.ApartLemmas.{across, else_of, is_out, not_second, other_out}
use Rattle.core_laws.proofs.SettledLemmas.{settled_were_read}
use Rattle.core_laws.proofs.SilentLemmas.{one_order_of}

module _ {P N O I : Type 0} (K : Known P O I N) {G S : Type 0} (d : Lent G N S) (order : IsOneOrder d) (distinct : AreDistinct K.exact (name_of d.items)) (i o j u : ℕ) (other : o ≢ u) (known : HasSocket (for_caller i d) (id o))
    (theirs : HasSocket (for_caller j d) (id u)) (e : EndId) (h : Halves O I) (coming : coming_to d (slot_after u (moments_of (for_caller j d))).0 e ≡ true) (written : name_of d.items e ≡ Some (K.out_name h.out))
    (read : name_of d.items (other_end e) ≡ Some (K.in_name h.input)) where
  module _ (q : Place N I) (is : IsPlaceOf o (for_caller i d) q) where
    pub its : IsOfIts o (for_caller i d) q.end q.written q.read
    its = is.its

    pub ends : e ≢ q.end
    ends same = other (sym (there (for_caller i d) o (one_order_of i d order) known q.end its.its).own ∙ ap (owner_of (control_of d.past)) (sym same) ∙ mine (for_caller j d) u (one_order_of j d order) theirs e coming)

    -- a pipe that they write is none that the other read to its end
    pub unsettled : q.held ≡ false → IsElse K (K.out_name h.out) q.read
    unsettled gone = else_of K d distinct e (other_end q.end) (K.out_name h.out) q.read written its.read (λ same.
        not_second (has_writer (place_of (control_of d.past) e)) (is_away (place_of (control_of d.past) e))
        (ap (λ (x : EndId). is_out (place_of (control_of d.past) x)) same ∙ other_out (control_of d.past) (kept_now d order) q.end (is.gone gone)) (away (for_caller j d) u (one_order_of j d order) theirs e coming))

  pub are_else : (from to : EndTable N O I) → ArePlacesOf o (for_caller i d) to.places.items → WereRead to.places.items to.settled.items → AreElseFrom K from to h
  are_else from to places read_out = record {
    outs = λ k q at wrote. else_of K d distinct e q.end (K.out_name h.out) q.written written (its q (places k q at)).written (ends q (places k q at));
    unsettled = settled_were_read K to read_out (K.out_name h.out) (λ k q at gone. unsettled q (places k q at) gone);
    ins = λ k q at had. else_of K d distinct (other_end e) (other_end q.end) (K.in_name h.input) q.read read (its q (places k q at)).read (across e q.end (ends q (places k q at)));
  }

-- ---- and the ends of the socket itself
module _ {P N O I : Type 0} (K : Known P O I N) {G S : Type 0} (d : Lent G N S) (order : IsOneOrder d) (distinct : AreDistinct K.exact (name_of d.items)) (j u : ℕ) (theirs : HasSocket (for_caller j d) (id u)) (e : EndId) (h : Halves O I)
    (coming : coming_to d (slot_after u (moments_of (for_caller j d))).0 e ≡ true) (written : name_of d.items e ≡ Some (K.out_name h.out)) (read : name_of d.items (other_end e) ≡ Some (K.in_name h.input)) where
  fresh : IsNoneOfIts u (for_caller j d) e
  fresh = coming_ends_are_new G N S (for_caller j d) u (one_order_of j d order) theirs e coming

  crossed : IsElse K (K.out_name h.out) (K.in_name h.input)
  crossed = else_of K d distinct e (other_end e) (K.out_name h.out) (K.in_name h.input) written read (λ same. differ e.a (ap (λ (x : EndId). x.a) same))
    where
      differ : (b : Bool) → b ≡ not b → ⊥
      differ true h = never (sym h)
      differ false h = never h

  module _ (p : Place N I) (held : IsHeldBy u (for_caller j d) p) where
    its_p : IsOfIts u (for_caller j d) p.end p.written p.read
    its_p = held.its

    apart : e ≢ p.end
    apart = fresh.other p.end its_p.its

    beyond : e ≢ other_end p.end
    beyond = fresh.across p.end its_p.its

    before : p.end ≢ other_end e
    before same = beyond (sym (other_twice e) ∙ ap other_end (sym same))

    is_else : IsElseOf K p h
    is_else = record {
      outs = λ writes. (else_of K d distinct p.end e p.written (K.out_name h.out) its_p.written written (λ same. apart (sym same)), else_of K d distinct e p.end (K.out_name h.out) p.written written its_p.written apart);
      ins = (
        else_of K d distinct (other_end p.end) (other_end e) p.read (K.in_name h.input) its_p.read read (across p.end e (λ same. apart (sym same))),
        else_of K d distinct (other_end e) (other_end p.end) (K.in_name h.input) p.read read its_p.read (across e p.end apart),
      );
      reads = else_of K d distinct e (other_end p.end) (K.out_name h.out) p.read written its_p.read beyond;
      writes = λ writes. else_of K d distinct p.end (other_end e) p.written (K.in_name h.input) its_p.written read before;
    }

  -- halves of pipes that are there, and not sealed, may join it
  pub joins_by : (pipes : P) (ps : List (Place N I)) → AreHeldBy u (for_caller j d) ps → IsThere K pipes (K.out_name h.out) → IsThere K pipes (K.in_name h.input) → (K.writing pipes h.out).sealed ≡ false → Fits K pipes ps h
  joins_by pipes ps held out_there in_there unsealed = record {
    out_there = out_there;
    in_there = in_there;
    unsealed = unsealed;
    crossed = crossed;
    others = λ k p at is_held. is_else p (held k p at is_held);
  }

pub coming_join_still : (C W : Type 0) {P N O I : Type 0} (K : Known P O I N) (G S : Type 0) → ComingJoinStill C W K G S
coming_join_still C W K G S old new order distinct i o j u other known theirs was now t before behind leaves places read_out sends binds e h coming written read =
    let may = binds e h (sends.coming e coming) (sym (sends.written e coming) ∙ written) (sym (sends.read e coming) ∙ read) in
    others_join K (Some was) (Some now) (Some t) (Some t) before behind h leaves (are_else K new order distinct i o j u other known theirs e h coming written read was.ends now.ends places read_out, may.others) may
