-- Where a pipe is settled, and where not.
use Rattle.std.specs.Prelude.{◌≡◌, ◌≤◌, ◌<◌, ◌+◌, ◌&&◌, ℕ, Bool, true, false, not, cond, List, [], ◌∷◌, Option, Some, None, count_by, is_some, find, if◌then◌else◌, refl}
use Rattle.std.proofs.Common.{arith, sym, ap, ◌∙◌, subst, true≢false}
use Rattle.std.proofs.lemmas.List.Sums.{sum_by-cons}
use Rattle.zq_base.specs.declared.ids.EndId.{EndId}
use Rattle.zq_base.specs.Ends.{PipeId}
use Rattle.spec_pattern.specs.PipeStep.{read_through}
use Rattle.spec_control.specs.declared.end.EndState.TheVariants.{Gone}
use Rattle.spec_control.specs.declared.entry.Item.{Item}
use Rattle.spec_control.specs.Place.{Place, At, is_gone}
use Rattle.spec_control.specs.PairPhase.{Phase, Drawn, Opened, OpenedAsked, OpenedSeen, Both, BothSeen, BothSaw, AskedOne, Waits, Seen, Crossed, CrossedOne, CrossedBoth, Acked, FirstGone, LastOne, Over, place_in}
use Rattle.spec_control.specs.Rows.{PairRow, IsInPhase, pair, end_place}
use Rattle.spec_control.specs.Control.{Settlement, begun, is_end, next_pair, place_of}
use Rattle.spec_control.specs.ControlRun.{after_all, IsControlRun}
use Rattle.control_laws.proofs.RowLemmas.{holds}
use Rattle.control_laws.specs.Once.{CommandsComeOnce}
use Rattle.spec_run.specs.OwnedRun.{settlement_of}
use Rattle.socket_laws.proofs.CountedLemmas.{other_twice}
use Rattle.socket_laws.proofs.SideLemmas.{begun_is, grows}
use Rattle.socket_laws.specs.Settled.{SettledEndsAreGone, writes_on, PipesAreSettled}

-- beside an end that is gone none writes on
blocked : (phase : Phase) (first : Bool) → (is_gone (place_in phase first) && writes_on (place_in phase (not first))) ≡ false
blocked Drawn true = refl
blocked Drawn false = refl
blocked Opened true = refl
blocked Opened false = refl
blocked OpenedAsked true = refl
blocked OpenedAsked false = refl
blocked OpenedSeen true = refl
blocked OpenedSeen false = refl
blocked Both true = refl
blocked Both false = refl
blocked BothSeen true = refl
blocked BothSeen false = refl
blocked BothSaw true = refl
blocked BothSaw false = refl
blocked AskedOne true = refl
blocked AskedOne false = refl
blocked Waits true = refl
blocked Waits false = refl
blocked Seen true = refl
blocked Seen false = refl
blocked Crossed true = refl
blocked Crossed false = refl
blocked CrossedOne true = refl
blocked CrossedOne false = refl
blocked CrossedBoth true = refl
blocked CrossedBoth false = refl
blocked Acked true = refl
blocked Acked false = refl
blocked FirstGone true = refl
blocked FirstGone false = refl
blocked LastOne true = refl
blocked LastOne false = refl
blocked Over true = refl
blocked Over false = refl

turned : (phase : Phase) (first : Bool) → (is_gone (place_in phase (not first)) && writes_on (place_in phase first)) ≡ false
turned phase true = blocked phase false
turned phase false = blocked phase true

beside : (p : PairRow) → IsInPhase p → (a : Bool) → (is_gone (end_place p (not a)) && writes_on (end_place p a)) ≡ false
beside p is true = ap (λ (x : Place). is_gone x && writes_on p.a) is.b_is ∙ ap (λ (x : Place). is_gone (place_in is.phase (not is.first)) && writes_on x) is.a_is ∙ turned is.phase is.first
beside p is false = ap (λ (x : Place). is_gone x && writes_on p.b) is.a_is ∙ ap (λ (x : Place). is_gone (place_in is.phase is.first) && writes_on x) is.b_is ∙ blocked is.phase is.first

none_where : (o : Option Settlement) → (is_some o ≡ true → ⊥) → o ≡ None
none_where None h = refl
none_where (Some s) h = absurd (h refl)

counted_found : (f : Settlement → Bool) (xs : List Settlement) → 0 < count_by f xs → is_some (find f xs) ≡ true
counted_found f [] lt = absurd (omega (arith, lt))
counted_found f (x ∷ xs) lt = by (f x) (counted_found f xs) (let one = sum_by-cons (λ (s : Settlement). cond (f s) 1 0) x xs in omega (arith, lt, one))
  where
    by : (b : Bool) → (0 < count_by f xs → is_some (find f xs) ≡ true) → 0 < cond b 1 0 + count_by f xs → is_some (if b then Some x else find f xs) ≡ true
    by true rest h = refl
    by false rest h = rest (omega (arith, h))

pub pipes_are_settled : (N T : Type 0) → SettledEndsAreGone N T → CommandsComeOnce N T → PipesAreSettled N T
pipes_are_settled N T over once = record { unnumbered = unnumbered; written = written; read = read; gone = gone }
  where
    unnumbered : (io : ℕ) (items : List (Item N T)) → IsControlRun (begun io) items → (p : PipeId) → next_pair (after_all items (begun io)) ≤ p.pair.0 → settlement_of (after_all items (begun io)) p ≡ None
    unnumbered io items run p le = none_where (settlement_of (after_all items (begun io)) p) (λ some. let lt = (over io items run p some).0 in absurd (omega (arith, lt, le)))

    written : (io : ℕ) (items : List (Item N T)) → IsControlRun (begun io) items → (p : PipeId) → writes_on (place_of (after_all items (begun io)) p) ≡ true
        → settlement_of (after_all items (begun io)) p ≡ None
    written io items run p writes = none_where (settlement_of (after_all items (begun io)) p) (λ some.
        let c = after_all items (begun io) in
        let phases = (holds c.rows (grows items (begun io) (begun_is io) run).1.kept.reached).phases in
        let no = beside (pair c.rows p.pair.0) (phases p.pair.0) p.a in
        true≢false (sym (ap (λ (x : Place). is_gone x && writes_on (place_of c p)) (over io items run p some).1 ∙ writes) ∙ no))

    read : (io : ℕ) (items : List (Item N T)) → IsControlRun (begun io) items → (e : EndId) → is_gone (place_of (after_all items (begun io)) e) ≡ false → settlement_of (after_all items (begun io)) (read_through e) ≡ None
    read io items run e there = none_where (settlement_of (after_all items (begun io)) (read_through e)) (λ some.
        let c = after_all items (begun io) in
        true≢false (sym (ap (λ (d : EndId). is_gone (place_of c d)) (sym (other_twice e)) ∙ ap is_gone (over io items run (read_through e) some).1) ∙ there))

    gone : (io : ℕ) (items : List (Item N T)) → IsControlRun (begun io) items → (e : EndId) → 0 < e.pair.0 → e.pair.0 < next_pair (after_all items (begun io)) → place_of (after_all items (begun io)) e ≡ At Gone
        → is_some (settlement_of (after_all items (begun io)) (read_through e)) ≡ true
    gone io items run e above lt is =
        let c = after_all items (begun io) in
        let one = ((once io items run).gone e above lt is).settled in
        subst (λ (d : EndId). is_some (find (λ (s : Settlement). is_end d s.end) c.settlements) ≡ true) (sym (other_twice e)) (counted_found (λ s. is_end e s.end) c.settlements (omega (arith, one)))
