-- What the reaper's calls leave of the others, and theirs of the reaper's ends.
use Rattle.std.proofs.Common.{◌≡◌, ◌∙◌, ℕ, Bool, true, false, List, [], ◌∷◌, All, Some, is_some, refl, sym, ap, subst}
use Rattle.std.proofs.lemmas.List.Elements.{All-nil, All-cons, All-head, All-tail}
use Rattle.spec_pattern.specs.Half.{Writing, Reading}
use Rattle.msg_pipe.specs.Known.{Known, IsThere}
use Rattle.end_table.specs.Rows.{row_at}
use Rattle.desk.specs.declared.given.Given.{Given}
use Rattle.desk.specs.TakingOver.{AreGivenWith, IsGivenWith}
use Rattle.end_table.specs.declared.table.Place.{Place}
use Rattle.end_table.specs.declared.table.EndTable.{EndTable}
use Rattle.end_table.specs.Places.{place_at}
use Rattle.end_table.specs.Sound.{StandsSo}
use Rattle.end_table.specs.Others.{Leaves as SocketLeaves, IsNoneWritten as NoneWrittenBySocket, IsUnsettled as UnsettledBySocket}
use Rattle.end_table.proofs.SoundLemmas.{Carries, carried}
use Rattle.closed_ends.specs.Has.{all_ends}
use Rattle.closed_ends.specs.Others.{IsNoneWritten, IsNoneRead, IsUnsettled}
use Rattle.closed_ends.specs.Laws.{LeavesSockets, IsGivenElseThanClosed, LeavesGiven, LeavesFitting, IsClosedElse, LeavesClosed}

module _ {S O I N : Type 0} (K : Known S O I N) where
  pub sockets_sound : LeavesSockets K
  sockets_sound old new from to rows places leaves apart sound = record {
    count = sound.count;
    stands = λ k p at. by k p at p.held refl;
    apart = sound.apart;
    crossed = sound.crossed;
  }
    where
      carries : (k : ℕ) (p : Place N I) → place_at places k ≡ Some p → p.held ≡ true → Carries K old new p
      carries k p at held =
          let a = apart k p at held in
          record {
            there_out = λ h w t. leaves.written p.written (a.unsettled w) t;
            there_in = λ h t. leaves.read p.read a.ins t;
            outs = λ h w o e t. leaves.outs o (subst (IsThere K old) (sym e) t) (subst (IsNoneWritten K from to) (sym e) (a.outs w)) (subst (IsUnsettled K to) (sym e) (a.unsettled w));
            ins = λ h i e t. leaves.ins i (subst (IsThere K old) (sym e) t) (subst (IsNoneRead K from to) (sym e) a.ins);
          }

      by : (k : ℕ) (p : Place N I) → place_at places k ≡ Some p → (h : Bool) → p.held ≡ h → StandsSo K new (row_at rows k) p p.held p.writes
      by k p at true e = carried K old new (row_at rows k) p (carries k p at e) p.held p.writes refl refl (sound.stands k p at)
      by k p at false e =
          subst (λ (h : Bool). StandsSo K new (row_at rows k) p h p.writes) (sym e)
          (subst (λ (h : Bool). StandsSo K old (row_at rows k) p h p.writes) e (sound.stands k p at))

  pub given_stay : LeavesGiven K
  given_stay old new from to [] leaves apart given = All-nil (IsGivenWith K new)
  given_stay old new from to (g ∷ gs) leaves apart given =
      All-cons (IsGivenWith K new) g gs
      (one (All-head (IsGivenElseThanClosed K from to) g gs apart) (All-head (IsGivenWith K old) g gs given))
      (given_stay old new from to gs leaves (All-tail (IsGivenElseThanClosed K from to) g gs apart) (All-tail (IsGivenWith K old) g gs given))
    where
      one : IsGivenElseThanClosed K from to g → IsGivenWith K old g → IsGivenWith K new g
      one else is = record {
        read_there = leaves.read (K.in_name g.input) else.ins is.read_there;
        met = λ m. ap (λ (r : Reading). r.ended) (leaves.ins g.input is.read_there else.ins) ∙ is.met m;
        out_is = is.out_is;
        written_there = λ o e. leaves.written g.written (else.unsettled (ap is_some e)) (is.written_there o e);
        unsealed = λ o e s.
            ap (λ (v : Writing). v.sealed) (leaves.outs o (subst (IsThere K old) (sym (is.out_is o e)) (is.written_there o e))
            (subst (IsNoneWritten K from to) (sym (is.out_is o e)) (else.outs (ap is_some e))) (subst (IsUnsettled K to) (sym (is.out_is o e)) (else.unsettled (ap is_some e))))
            ∙ is.unsealed o e s;
      }

  pub halves_fit : LeavesFitting K
  halves_fit old new from to places h leaves apart fits = record {
    out_there = leaves.written (K.out_name h.out) apart.unsettled fits.out_there;
    in_there = leaves.read (K.in_name h.input) apart.ins fits.in_there;
    unsealed = ap (λ (v : Writing). v.sealed) (leaves.outs h.out fits.out_there apart.outs apart.unsettled) ∙ fits.unsealed;
    crossed = fits.crossed;
    others = fits.others;
  }

  closed_stay : (old new : S) (from to : EndTable N O I) (gs : List (Given N O I)) → SocketLeaves K old from new to → All (IsClosedElse K from to) gs → AreGivenWith K old gs → AreGivenWith K new gs
  closed_stay old new from to [] leaves apart given = All-nil (IsGivenWith K new)
  closed_stay old new from to (g ∷ gs) leaves apart given =
      All-cons (IsGivenWith K new) g gs
      (one (All-head (IsClosedElse K from to) g gs apart) (All-head (IsGivenWith K old) g gs given))
      (closed_stay old new from to gs leaves (All-tail (IsClosedElse K from to) g gs apart) (All-tail (IsGivenWith K old) g gs given))
    where
      one : IsClosedElse K from to g → IsGivenWith K old g → IsGivenWith K new g
      one else is = record {
        read_there = leaves.read (K.in_name g.input) else.ins is.read_there;
        met = λ m. ap (λ (r : Reading). r.ended) (leaves.ins g.input is.read_there else.ins) ∙ is.met m;
        out_is = is.out_is;
        written_there = λ o e. leaves.written g.written (else.unsettled (ap is_some e)) (is.written_there o e);
        unsealed = λ o e s.
            ap (λ (v : Writing). v.sealed) (leaves.outs o (subst (IsThere K old) (sym (is.out_is o e)) (is.written_there o e))
            (subst (NoneWrittenBySocket K from to) (sym (is.out_is o e)) (else.outs (ap is_some e))) (subst (UnsettledBySocket K to) (sym (is.out_is o e)) (else.unsettled (ap is_some e))))
            ∙ is.unsealed o e s;
      }

  pub closed_sound : LeavesClosed K
  closed_sound old new from to ss leaves apart sound = record {
    halves = closed_stay old new from to (all_ends ss) leaves apart sound.halves;
    apart = sound.apart;
    alone = sound.alone;
  }
