-- The ends that one socket holds are of other pipes than those of another.
use Rattle.std.specs.Prelude.{◌≡◌, ◌≢◌, ◌||◌, ℕ, Bool, true, false, not, Some, refl}
use Rattle.std.proofs.Common.{sym, ap, ◌∙◌}
use Rattle.zq_base.specs.Ends.{other_end}
use Rattle.zq_base.specs.declared.ids.EndId.{EndId}
use Rattle.spec_control.specs.declared.end.EndState.TheVariants.{Gone}
use Rattle.spec_control.specs.PairPhase.{Phase, Drawn, Opened, OpenedAsked, OpenedSeen, Both, BothSeen, BothSaw, AskedOne, Waits, Seen, Crossed, CrossedOne, CrossedBoth, Acked, FirstGone, LastOne, Over, place_in}
use Rattle.spec_control.specs.Place.{Place as IsAt, At, is_away, is_gone}
use Rattle.spec_control.specs.Rows.{PairRow, IsInPhase, end_place, pair}
use Rattle.spec_control.specs.Control.{Control, id, owner_of, place_of}
use Rattle.spec_control.specs.Names.{name_of}
use Rattle.control_laws.proofs.ListLemmas.{never}
use Rattle.control_laws.proofs.StepLemmas.{inv_of}
use Rattle.control_laws.specs.Kept.{Kept}
use Rattle.control_laws.proofs.EndLemmas.{kept_but}
use Rattle.control_laws.proofs.TellLemmas.{rows_of}
use Rattle.msg_pipe.specs.Known.{Known, IsElse}
use Rattle.ctl_moves.proofs.HeldLemmas.{other_twice}
use Rattle.desk.specs.Lent.{has_writer}
use Rattle.desk.specs.TakingOver.{AreDistinct}
use Rattle.ctl_plane.specs.Past.{control_of}
use Rattle.end_table.specs.declared.table.Place.{Place}
use Rattle.end_table.specs.declared.table.EndTable.{EndTable}
use Rattle.end_table.specs.Others.{IsApartFrom}
use Rattle.sock_core.specs.Noted.{WereRead}
use Rattle.plain_desk.specs.Lent.{HasSocket, IsOneOrder, Lent}
use Rattle.socket_laws.specs.Behind.{IsOfIts}
use Rattle.socket_laws.proofs.NewLemmas.{there}
use Rattle.socket_laws.proofs.SocketLemmas.{kept_now}
use Rattle.core_laws.specs.Apart.{ArePlacesOf, IsHeldBy, IsPlaceOf}
use Rattle.core_laws.specs.Calls.{for_caller}
use Rattle.core_laws.specs.Laws.{HeldPlacesAreApart}
use Rattle.core_laws.proofs.SettledLemmas.{settled_were_read}
use Rattle.core_laws.proofs.SilentLemmas.{one_order_of}

-- ---- beside an end that is gone the other is not on its way, and gave its writing half away
abbrev pub is_out : IsAt → Bool
is_out p = has_writer p || is_away p

beside_gone : (phase : Phase) (first : Bool) → is_gone (place_in phase first) ≡ true → is_out (place_in phase (not first)) ≡ false
beside_gone FirstGone true h = refl
beside_gone LastOne true h = refl
beside_gone Over true h = refl
beside_gone Over false h = refl
beside_gone Drawn true h = absurd (never h)
beside_gone Drawn false h = absurd (never h)
beside_gone Opened true h = absurd (never h)
beside_gone Opened false h = absurd (never h)
beside_gone OpenedAsked true h = absurd (never h)
beside_gone OpenedAsked false h = absurd (never h)
beside_gone OpenedSeen true h = absurd (never h)
beside_gone OpenedSeen false h = absurd (never h)
beside_gone Both true h = absurd (never h)
beside_gone Both false h = absurd (never h)
beside_gone BothSeen true h = absurd (never h)
beside_gone BothSeen false h = absurd (never h)
beside_gone BothSaw true h = absurd (never h)
beside_gone BothSaw false h = absurd (never h)
beside_gone AskedOne true h = absurd (never h)
beside_gone AskedOne false h = absurd (never h)
beside_gone Waits true h = absurd (never h)
beside_gone Waits false h = absurd (never h)
beside_gone Seen true h = absurd (never h)
beside_gone Seen false h = absurd (never h)
beside_gone Crossed true h = absurd (never h)
beside_gone Crossed false h = absurd (never h)
beside_gone CrossedOne true h = absurd (never h)
beside_gone CrossedOne false h = absurd (never h)
beside_gone CrossedBoth true h = absurd (never h)
beside_gone CrossedBoth false h = absurd (never h)
beside_gone Acked true h = absurd (never h)
beside_gone Acked false h = absurd (never h)
beside_gone FirstGone false h = absurd (never h)
beside_gone LastOne false h = absurd (never h)

twice : (b : Bool) → not (not b) ≡ b
twice true = refl
twice false = refl

pair_gone : (p : PairRow) → IsInPhase p → (a : Bool) → is_gone (end_place p a) ≡ true → is_out (end_place p (not a)) ≡ false
pair_gone p is true gone = ap is_out is.b_is ∙ beside_gone is.phase is.first (ap is_gone (sym is.a_is) ∙ gone)
pair_gone p is false gone =
    ap is_out is.a_is ∙ ap (λ (b : Bool). is_out (place_in is.phase b)) (sym (twice is.first)) ∙ beside_gone is.phase (not is.first) (ap is_gone (sym is.b_is) ∙ gone)

pub other_out : (c : Control) → Kept c → (e : EndId) → place_of c e ≡ At Gone → is_out (place_of c (other_end e)) ≡ false
other_out c kept e gone = pair_gone (pair c.rows e.pair.0) ((inv_of (rows_of (kept_but 0 c kept))).phases e.pair.0) e.a (ap is_gone gone)

pub not_first : (b c : Bool) → (b || c) ≡ false → b ≡ true → ⊥
not_first true c e is = never (sym e)
not_first false c e is = never is

pub not_second : (b c : Bool) → (b || c) ≡ false → c ≡ true → ⊥
not_second true c e is = never (sym e)
not_second false true e is = never (sym e)
not_second false false e is = never is

-- ---- two sockets
module _ {P N O I : Type 0} (K : Known P O I N) {G S : Type 0} (d : Lent G N S) (distinct : AreDistinct K.exact (name_of d.items)) where
  -- pipes that two ends write are two
  pub else_of : (x y : EndId) (n m : N) → name_of d.items x ≡ Some n → name_of d.items y ≡ Some m → x ≢ y → IsElse K n m
  else_of x y n m of_x of_y apart = λ exact same. apart (distinct exact x y n of_x (of_y ∙ ap (λ (z : N). Some z) (sym same)))

-- and so are those that they read
pub across : (x y : EndId) → x ≢ y → other_end x ≢ other_end y
across x y apart same = apart (sym (other_twice x) ∙ ap other_end same ∙ other_twice y)

module _ {P N O I : Type 0} (K : Known P O I N) {G S : Type 0} (d : Lent G N S) (order : IsOneOrder d) (distinct : AreDistinct K.exact (name_of d.items)) (i o j u : ℕ) (other : o ≢ u) (mine : HasSocket (for_caller i d) (id o))
    (theirs : HasSocket (for_caller j d) (id u)) where
  module _ (p : Place N I) (held : IsHeldBy u (for_caller j d) p) where
    its_p : IsOfIts u (for_caller j d) p.end p.written p.read
    its_p = held.its

    module _ (q : Place N I) (is : IsPlaceOf o (for_caller i d) q) where
      its_q : IsOfIts o (for_caller i d) q.end q.written q.read
      its_q = is.its

      ends : p.end ≢ q.end
      ends same = other (sym (there (for_caller i d) o (one_order_of i d order) mine q.end its_q.its).own ∙ ap (owner_of (control_of d.past)) (sym same) ∙ (there (for_caller j d) u (one_order_of j d order) theirs p.end its_p.its).own)

      written : IsElse K p.written q.written
      written = else_of K d distinct p.end q.end p.written q.written its_p.written its_q.written ends

      read : IsElse K p.read q.read
      read = else_of K d distinct (other_end p.end) (other_end q.end) p.read q.read its_p.read its_q.read (across p.end q.end ends)

      -- a pipe that it writes is none that the other read to its end
      unsettled : p.writes ≡ true → (q.held) ≡ false → IsElse K p.written q.read
      unsettled writes gone = else_of K d distinct p.end (other_end q.end) p.written q.read its_p.written its_q.read (λ same.
          not_first (has_writer (place_of (control_of d.past) p.end)) (is_away (place_of (control_of d.past) p.end))
          (ap (λ (e : EndId). is_out (place_of (control_of d.past) e)) same ∙ other_out (control_of d.past) (kept_now d order) q.end (is.gone gone)) (held.writes writes))

    pub is_apart : (from to : EndTable N O I) → ArePlacesOf o (for_caller i d) to.places.items → WereRead to.places.items to.settled.items → IsApartFrom K from to p
    is_apart from to places read_out = record {
      outs = λ writes k q at wrote. written q (places k q at);
      unsettled = λ writes. settled_were_read K to read_out p.written (λ k q at gone. unsettled q (places k q at) writes gone);
      ins = λ k q at had. read q (places k q at);
    }

pub held_places_are_apart : {P N O I : Type 0} (K : Known P O I N) (G S : Type 0) → HeldPlacesAreApart K G S
held_places_are_apart K G S d order distinct i o j u other mine theirs from to places read_out p held = is_apart K d order distinct i o j u other mine theirs p held from to places read_out
