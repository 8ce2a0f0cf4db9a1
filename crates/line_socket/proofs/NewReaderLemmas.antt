-- Which end a command leaves to read on, by the ends that read on before it and behind it.
use Rattle.std.specs.Prelude.{slice_index_or}
use Rattle.std.proofs.Common.{◌≡◌, ◌∙◌, ◌+◌, ◌<◌, ◌||◌, ◌&&◌, ℕ, zero, suc, Bool, true, false, List, [], ◌∷◌, ◌++◌, All, not, length, drop, filter, Option, Some, None, refl, sym, ap, subst, true≢false, if◌then◌else◌}
use Rattle.std.specs.List.{list_any}
use Rattle.std.proofs.lemmas.List.Elements.{All-nil, All-cons}
use Rattle.zq_base.specs.declared.ids.EndId.{EndId}
use Rattle.spec_control.specs.declared.letter.Letter.{Letter}
use Rattle.spec_control.specs.declared.letter.Word.TheVariants.{PipeTerm}
use Rattle.spec_control.specs.Place.{At, is_here}
use Rattle.spec_control.specs.Control.{Control, begun, is_end, place_of, ends_of}
use Rattle.spec_control.specs.ControlRun.{after_all}
use Rattle.spec_control.specs.Moments.{Moment, left_by}
use Rattle.control_laws.proofs.AskLemmas.{end_self}
use Rattle.desk.specs.declared.given.Given.{Given}
use Rattle.socket_laws.specs.Behind.{closes}
use Rattle.msg_pipe.specs.Known.{Known}
use Rattle.any_sock.specs.declared.any_sock.AnySock.{AnySock}
use Rattle.end_table.specs.declared.table.Place.{Place}
use Rattle.desk.specs.Desk.{counts_with}
use Rattle.sock_core.specs.declared.sock.SockCore.{SockCore}
use Rattle.sock_calls.specs.Calls.{counts_by, holding_of}
use Rattle.line_socket.specs.Standing.{kind_told}
use Rattle.spec_run.specs.OpenSocket.{awaits_delimiter}
use Rattle.spec_run.specs.Event.{IsDelivery}
use Rattle.line_calls.specs.Reading.{ReadsOnAt}
use Rattle.line_calls.specs.Steps.{IsLeftReading}
use Rattle.line_calls.specs.declared.found.Reader.{Reader}
use Rattle.socket_laws.specs.Open.{IsOfItem}
use Rattle.socket_laws.specs.Ways.{ReadsOn}
use Rattle.socket_laws.proofs.ReadLemmas.{among_ends, one_end_reads_on}
use Rattle.socket_laws.proofs.ToldLemmas.{pass_among}
use Rattle.plain_desk.specs.Lent.{Lent, moments_of}
use Rattle.socket_laws.specs.Calling.{OpensBy}
use Rattle.line_socket.specs.Owned.{IsLentTo}
use Rattle.line_socket.specs.Called.{IsCalled}
use Rattle.line_socket.specs.Readers.{reads_on, held_places, readers_in, readers_from, AreAmong, IsNewReader}
use Rattle.line_socket.specs.ReadersOwed.{awaits_here, filter_both, held_told, reads_told}
use Rattle.line_socket.proofs.MomentLemmas.{one, left_now}
use Rattle.line_socket.proofs.MovesLemmas.{comes}
use Rattle.line_socket.proofs.ReadingLemmas.{at_place}
use Rattle.line_socket.proofs.ThroughLemmas.{one_call, stays_so, lent_behind}
use Rattle.line_socket.proofs.ToItLemmas.{passes_among, its_before}

-- ---- of lists

-- what is so of each end that is among these is so of all of them
all_of : (P : EndId → Type 0) (es : List EndId) → ((e : EndId) → list_any (is_end e) es ≡ true → P e) → All P es
all_of P [] h = All-nil P
all_of P (x ∷ es) h = All-cons P x es (h x (ap (λ (b : Bool). b || list_any (is_end x) es) (end_self x))) (all_of P es (λ e is. h e (later (is_end e x) (list_any (is_end e) es) is))) where
  later : (b c : Bool) → c ≡ true → b || c ≡ true
  later true c k = refl
  later false c k = k

module _ {N I : Type 0} where
  -- those from a place on are some of all
  drop_among : (ps : List (Place N I)) (k : ℕ) (e : EndId) → list_any (is_end e) (readers_in (drop k ps)) ≡ true → list_any (is_end e) (readers_in ps) ≡ true
  drop_among [] zero e h = h
  drop_among [] (suc k) e h = h
  drop_among (p ∷ ps) zero e h = h
  drop_among (p ∷ ps) (suc k) e h = by (reads_on p) (drop_among ps k e h) where
    by : (b : Bool) → list_any (is_end e) (readers_in ps) ≡ true → list_any (is_end e) (if b then p.end ∷ readers_in ps else readers_in ps) ≡ true
    by true rest = later (is_end e p.end) (list_any (is_end e) (readers_in ps)) rest where
      later : (b c : Bool) → c ≡ true → b || c ≡ true
      later true c k = refl
      later false c k = k
    by false rest = rest

  at_reader : (ps : List (Place N I)) (at : Reader) → ReadsOnAt (λ n. readers_in (drop n ps)) at → list_any (is_end at.end) (readers_in ps) ≡ true
  at_reader ps at reads =
      drop_among ps at.place at.end (ap (list_any (is_end at.end)) reads ∙ ap (λ (b : Bool). b || list_any (is_end at.end) (readers_in (drop (at.place + 1) ps))) (end_self at.end))

  -- an end that reads on is held
  pub readers_held : (ps : List (Place N I)) → readers_in (held_places ps) ≡ readers_in ps
  readers_held [] = refl
  readers_held (p ∷ ps) = by p.held refl (readers_held ps) where
    by : (b : Bool) → p.held ≡ b → readers_in (held_places ps) ≡ readers_in ps → readers_in (if p.held then p ∷ held_places ps else held_places ps) ≡ (if p.held && awaits_delimiter (At p.state) then p.end ∷ readers_in ps else readers_in ps)
    by true is rest =
        ap (λ (b : Bool). readers_in (if b then p ∷ held_places ps else held_places ps)) is
        ∙ ap (λ (l : List EndId). if reads_on p then p.end ∷ l else l) rest
    by false is rest =
        ap (λ (b : Bool). readers_in (if b then p ∷ held_places ps else held_places ps)) is ∙ rest
        ∙ ap (λ (b : Bool). if b && awaits_delimiter (At p.state) then p.end ∷ readers_in ps else readers_in ps) (sym is)

  -- the walk goes on where the end at a place is not new
  pub among_next : (ps : List (Place N I)) (k : ℕ) (p : Place N I) (before : List EndId) → k < length ps → p ≡ slice_index_or ps k p → (reads_on p && not (list_any (is_end p.end) before)) ≡ false
      → AreAmong before (readers_in (drop (k + 1) ps)) → AreAmong before (readers_in (drop k ps))
  among_next ps k p before lt at old rest = subst (AreAmong before) (sym (at_place ps k p lt at)) (by (reads_on p) refl) where
    behind : List EndId
    behind = readers_in (drop (k + 1) ps)

    not_not : (b : Bool) → not b ≡ false → b ≡ true
    not_not true h = refl
    not_not false h = absurd (true≢false h)

    by : (b : Bool) → reads_on p ≡ b → AreAmong before (if reads_on p then p.end ∷ behind else behind)
    by true is =
        subst (λ (b : Bool). AreAmong before (if b then p.end ∷ behind else behind)) (sym is)
        (All-cons (λ x. list_any (is_end x) before ≡ true) p.end behind (not_not (list_any (is_end p.end) before) (sym (ap (λ (b : Bool). b && not (list_any (is_end p.end) before)) is) ∙ old)) rest)
    by false is = subst (λ (b : Bool). AreAmong before (if b then p.end ∷ behind else behind)) (sym is) rest

-- ---- by the control plane before and behind

module _ {N S : Type 0} (o : ℕ) (letter : Letter) (m : Moment N S) (reads : ReadsOn o letter m)
    (its : (x : EndId) → list_any (is_end x) (ends_of o (left_by m)) ≡ true → awaits_delimiter (place_of m.found x) ≡ true → list_any (is_end x) (ends_of o m.found) ≡ true)
    (before now : List EndId) (before_are : before ≡ filter (λ e. awaits_delimiter (place_of m.found e)) (ends_of o m.found)) (now_are : now ≡ filter (λ e. awaits_delimiter (place_of (left_by m) e)) (ends_of o (left_by m))) where
  abbrev awaited : EndId → Bool
  awaited e = awaits_delimiter (place_of m.found e)

  abbrev awaits : EndId → Bool
  awaits e = awaits_delimiter (place_of (left_by m) e)

  none_new : AreAmong before now → (e : EndId) → list_any (is_end e) (ends_of o (left_by m)) ≡ true → awaits e ≡ true → awaited e ≡ true
  none_new all e among is =
      let here : list_any (is_end e) now ≡ true = ap (list_any (is_end e)) now_are ∙ among_ends (λ x. awaits x ≡ true → list_any (is_end x) (filter awaits (ends_of o (left_by m))) ≡ true) (ends_of o (left_by m)) (pass_among awaits (ends_of o (left_by m))) e among is in
      (passes_among awaited (ends_of o m.found) e (sym (ap (list_any (is_end e)) before_are) ∙ among_ends (λ x. list_any (is_end x) before ≡ true) now all e here)).0

  was_not : (e : EndId) → list_any (is_end e) (ends_of o (left_by m)) ≡ true → list_any (is_end e) before ≡ false → awaited e ≡ false
  was_not e among none = by (awaited e) refl where
    by : (b : Bool) → awaited e ≡ b → awaited e ≡ false
    by false is = is
    by true is =
        absurd (true≢false (sym (ap (list_any (is_end e)) before_are
        ∙ among_ends (λ x. awaited x ≡ true → list_any (is_end x) (filter awaited (ends_of o m.found)) ≡ true) (ends_of o m.found) (pass_among awaited (ends_of o m.found)) e (its e among is) is) ∙ none))

  left_reading : (at : Option Reader) (reading : ℕ → List EndId) → reading 0 ≡ now → ((r : Reader) → ReadsOnAt reading r → list_any (is_end r.end) now ≡ true) → IsNewReader reading before at → IsLeftReading N S (left_by m) letter.word at
  left_reading None reading first found all = reads.none (all_of (λ e. awaits e ≡ true → awaited e ≡ true) (ends_of o (left_by m)) (none_new (subst (AreAmong before) first all)))
  left_reading (Some at) reading first found new =
      let here = passes_among awaits (ends_of o (left_by m)) at.end (sym (ap (list_any (is_end at.end)) now_are) ∙ found at new.0) in
      (among_ends (λ e. awaits e ≡ true → awaited e ≡ false → letter.word ≡ PipeTerm e) (ends_of o (left_by m)) reads.one at.end here.1 here.0 (was_not at.end here.1 new.1), here.0)

-- ---- of a socket that is lent

readers_await : {W N O I S T : Type 0} (K : Known S O I N) (pipes : S) (d : Lent (Given N O I) N T) (n : ℕ) (s : SockCore AnySock W N O I) → IsLentTo K pipes d n s →
    (let c = after_all d.items (begun d.past.workers) in readers_from (Some s) 0 ≡ filter (λ e. awaits_delimiter (place_of c e)) (ends_of s.number.0 c))
readers_await K pipes d n s is =
    let c = after_all d.items (begun d.past.workers) in
    reads_told K pipes d n s is 0
    ∙ ap (filter (λ e. awaits_delimiter (place_of c e))) (held_told K pipes d n s is)
    ∙ filter_both (λ e. awaits_delimiter (place_of c e)) (λ e. is_here (place_of c e)) (λ e. awaits_here (place_of c e)) (ends_of s.number.0 c)

module _ {W N O I S T : Type 0} {made : Bool} {may_make : EndId → ℕ → ℕ → Type 0} (K : Known S O I N) (before now : S) (d e : Lent (Given N O I) N T) (n : ℕ) (s t : SockCore AnySock W N O I)
    (is : IsLentTo K before d n s) (called : IsCalled K made may_make before d (Some s) now e (Some t)) (mo : Moment N T) (more : moments_of e ≡ moments_of d ++ mo ∷ [])
    (of_it : IsOfItem s.number.0 mo.found mo.item) (free : closes s.number.0 mo.item ≡ false)
    (opens : OpensBy made may_make s.number.0 mo) (counts : counts_with K.out_name (counts_by K before (Some s)) (holding_of kind_told (Some s)) mo.item) where
  reads_so : (slot : ℕ) (letter : Letter) → IsDelivery slot letter mo → ReadsOn s.number.0 letter mo
  reads_so slot letter delivery =
      let first = one d e called.grows called.order mo more in
      subst (λ (m : Moment N T). ReadsOn s.number.0 letter m) first.moment_is
      (one_end_reads_on N T d.past.workers d.items first.item s.number.0 (comes K before now d e n s t is called mo more of_it (stays_so K before now d e n s t is called mo more of_it free).is_open) slot letter
      (subst (λ (m : Moment N T). IsDelivery slot letter m) (sym first.moment_is) delivery))

  were : readers_from (Some s) 0 ≡ filter (λ x. awaits_delimiter (place_of mo.found x)) (ends_of s.number.0 mo.found)
  were = subst (λ (m : Moment N T). readers_from (Some s) 0 ≡ filter (λ x. awaits_delimiter (place_of m.found x)) (ends_of s.number.0 m.found)) (one d e called.grows called.order mo more).moment_is (readers_await K before d n s is)

  are : readers_from (Some t) 0 ≡ filter (λ x. awaits_delimiter (place_of (left_by mo) x)) (ends_of s.number.0 (left_by mo))
  are = subst (λ (c : Control). readers_from (Some t) 0 ≡ filter (λ x. awaits_delimiter (place_of c x)) (ends_of s.number.0 c)) (left_now d e called.grows called.order mo more)
      (subst (λ (i : ℕ). readers_from (Some t) 0 ≡ filter (λ x. awaits_delimiter (place_of (after_all e.items (begun e.past.workers)) x)) (ends_of i (after_all e.items (begun e.past.workers)))) called.owner
      (readers_await K now e (n + 1) t (lent_behind K before now d e n s t is called mo more of_it free opens counts)))

  -- the end that reads on now and did not before is that of the letter
  pub reader_told : (slot : ℕ) (letter : Letter) → IsDelivery slot letter mo → (ends : List EndId) → ends ≡ readers_from (Some s) 0 → (at : Option Reader) → IsNewReader (readers_from (Some t)) ends at → IsLeftReading N T (left_by mo) letter.word at
  reader_told slot letter delivery ends ends_are at new =
      left_reading s.number.0 letter mo (reads_so slot letter delivery) (λ x its awaits. its_before d e mo (one_call K before now d e n s t is called mo more of_it free) s.number.0 x its (awaits_here (place_of mo.found x) awaits))
      ends (readers_from (Some t) 0) (ends_are ∙ were) are at (readers_from (Some t)) refl (λ r reads. at_reader (held_places t.ends.places.items) r reads) new
