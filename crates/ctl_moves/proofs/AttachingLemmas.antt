-- That the first end of a pair is attached at its holder.
use Rattle.std.specs.Prelude.{◌≡◌, ◌++◌, ◌∷◌, [], ℕ, true, false, List, Option}
use Rattle.std.proofs.Common.{sym, ap, ◌∙◌, subst}
use Rattle.std.proofs.lemmas.List.{append-nil}
use Rattle.zq_base.specs.declared.attached.Attached.{Attached}
use Rattle.zq_base.specs.declared.ids.EndId.{EndId}
use Rattle.zq_base.specs.declared.kind.Kind.{Kind}
use Rattle.spec_control.specs.Held.{Held}
use Rattle.desk.specs.declared.halves.Halves.{Halves}
use Rattle.desk.specs.Holding.{HasNowhere, HearsNone, AreCrossed, Holding, Joined, JoinsBy, KeepsTurns, BeginsActive, MayRefuse, Stays, has_end, held_with, joining_with}
use Rattle.ctl_moves.specs.declared.joining_ends.FirstEnd.{FirstEnd}
use Rattle.ctl_moves.specs.declared.joining_ends.Names.{Names}
use Rattle.ctl_moves.specs.JoiningEnds.{AttachesFirst, held_first}
use Rattle.spec_control.specs.declared.entry.Joining.{Joining}
use Rattle.ctl_moves.specs.Joined.{Gets}
use Rattle.ctl_moves.specs.JoinNoting.{joins_named}
use Rattle.ctl_moves.proofs.TurnLemmas.{ends_same, turned_stays, turned_told}
use Rattle.ctl_moves.proofs.JoinedLemmas.{attach_active, attach_gets}

module _ {N O I : Type 0} (out_name : O → N) (in_name : I → N) (o : ℕ) (end : EndId) (peer : List ℕ) (h m k : Holding N) (mine other : Halves O I) (answer : Attached) (told opened theirs : Names N) where
  abbrev result : FirstEnd N O I
  result = record { answer = answer; told = told; opened = opened; other = record { halves = other; written = theirs.written; read = theirs.read } }

  pub attaches_first : AreCrossed out_name in_name mine other → Stays o h m → KeepsTurns h m → Joined o (held_with out_name in_name end mine) m k → BeginsActive end m k → MayRefuse (m.kind o) answer → JoinsBy (joining_with out_name in_name end peer mine answer ∷ []) m k →
      HearsNone h k → told.written ≡ out_name mine.out → told.read ≡ out_name other.out → opened.written ≡ out_name mine.out → opened.read ≡ out_name other.out → theirs.written ≡ out_name other.out → theirs.read ≡ out_name mine.out →
      AttachesFirst out_name in_name o end peer (record { answer = answer; told = told; opened = opened; other = record { halves = other; written = theirs.written; read = theirs.read } }) h k
  attaches_first crossed stays keeps joined begins refuses came heard tw tr ow or yw yr = record {
    gets = λ n past. subst (λ (x : Held N). Gets n o (x ∷ []) h k) held_is (attach_gets o (held_with out_name in_name end mine) h m k stays keeps joined begins n past);
    joins = record { mid = m; stays = stays; keeps = keeps; joined = subst (λ (x : Held N). Joined o x m k) held_is joined; begins = begins };
    refuses = subst (λ (kind : Option Kind). MayRefuse kind answer) (stays.now.kinds o) refuses;
    opened = ap (λ (x : N). let y : Names N = record { written = x; read = opened.read } in y) (ow ∙ sym tw) ∙ ap (λ (x : N). let y : Names N = record { written = told.written; read = x } in y) (or ∙ sym tr);
    other_written = yw ∙ sym tr;
    other_read = yr ∙ sym tw;
    other_out = sym yw;
    other_in = crossed.there ∙ sym yr;
    active = attach_active o (held_with out_name in_name end mine) m k joined begins;
    turned = record { turns = begins.turns ∙ keeps.turns ∙ sym (append-nil h.turns); sealed = begins.sealed ∙ keeps.sealed ∙ sym (append-nil h.sealed) };
    came = came ∙ ap (λ (js : List (Joining N)). js ++ joining_with out_name in_name end peer mine answer ∷ []) keeps.joined ∙ ap (λ (j : Joining N). h.joined ++ j ∷ []) joins_is;
    heard = heard;
  }
    where
      held_is : held_with out_name in_name end mine ≡ held_first end result
      held_is =
          ap (λ (x : N). let y : Held N = record { end = end; written = x; read = in_name mine.input } in y) (sym tw)
          ∙ ap (λ (x : N). let y : Held N = record { end = end; written = told.written; read = x } in y) (crossed.back ∙ sym tr)

      joins_is : joining_with out_name in_name end peer mine answer ≡ joins_named end peer answer told
      joins_is =
          ap (λ (x : N). let y : Joining N = record { end = end; peer = peer; written = x; read = in_name mine.input; answer = answer; met = false } in y) (sym tw)
          ∙ ap (λ (x : N). let y : Joining N = record { end = end; peer = peer; written = told.written; read = x; answer = answer; met = false } in y) (crossed.back ∙ sym tr)

-- an end that none of its objects had is none's while they stay
pub nowhere_still : {N : Type 0} (o : ℕ) (e : EndId) (h m : Holding N) → Stays o h m → HasNowhere e h → HasNowhere e m
nowhere_still o e h m stays new i holds =
    ap (has_end e) (ends_same o e h m false (turned_stays o e h m stays) i) ∙ new i (sym (stays.now.objects i) ∙ holds)

-- a holder whose ends stayed twice has what it had
pub stays_twice : {N : Type 0} (o : ℕ) (e : EndId) (h m k : Holding N) → Stays o h m → Stays o m k → Stays o h k
stays_twice o e h m k first next =
    let both = turned_told o e h m k false first (turned_stays o e m k next) in
    record { now = both.now; writers = both.writers }

-- and was told of nothing
pub keeps_twice : {N : Type 0} (o : ℕ) (e : EndId) (h m k : Holding N) → KeepsTurns h m → Stays o m k → KeepsTurns m k → KeepsTurns h k
keeps_twice o e h m k first stays next = record {
  states = λ i d here. next.states i d here ∙ first.states i d (subst (λ (hs : List (Held _)). has_end d hs ≡ true) (ends_same o e m k false (turned_stays o e m k stays) i) here);
  turns = next.turns ∙ first.turns;
  sealed = next.sealed ∙ first.sealed;
  joined = next.joined ∙ first.joined;
}
