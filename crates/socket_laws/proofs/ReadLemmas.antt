-- Which ends of an open socket are Active behind an item of it, and which one comes to read on.
use Rattle.std.specs.Prelude.{◌≡◌, ◌≢◌, ◌==◌, ◌&&◌, ◌||◌, ◌⊎◌, ℕ, Bool, true, false, List, [], ◌∷◌, Some, None, All, refl}
use Rattle.std.specs.List.{list_any}
use Rattle.std.proofs.Common.{sym, ap, ◌∙◌, subst, inl, inr}
use Rattle.std.proofs.lemmas.Bool.{eq-eqb}
use Rattle.std.proofs.lemmas.List.Elements.{All-head, All-tail, All-filter, All-append, All-weaker}
use Rattle.std.proofs.lemmas.List.Folds.{list_any-append}
use Rattle.zq_base.specs.declared.ids.EndId.{EndId}
use Rattle.spec_control.specs.declared.end.EndState.TheVariants.{Active, DelimiterGot, WaitDelimiter, AckSent, AskedOnce, AskedTwice, Gone}
use Rattle.spec_control.specs.declared.end.EndEvent.TheVariants.{TermCame}
use Rattle.spec_control.specs.declared.letter.Letter.{Letter}
use Rattle.spec_control.specs.declared.letter.Word.{Word}
use Rattle.spec_control.specs.declared.letter.Word.TheVariants.{Own, Plug, TermReq, Term, TermAck, PipeBind, PipeTerm, PipeTermAck, Stop, Reap}
use Rattle.spec_control.specs.declared.entry.Answered.{Answered}
use Rattle.spec_control.specs.declared.entry.Did.{Did}
use Rattle.spec_control.specs.declared.entry.Did.TheVariants.{Delivered}
use Rattle.spec_control.specs.declared.entry.Item.{Item}
use Rattle.spec_control.specs.declared.entry.Item.TheVariants.{Event, Seen}
use Rattle.spec_control.specs.Place.{Place, Unmade, Away, At, is_here}
use Rattle.spec_control.specs.PairPhase.{Happens, meets}
use Rattle.spec_control.specs.Control.{Control, begun, is_end, owner_of, place_of, ends_of}
use Rattle.spec_control.specs.After.{after}
use Rattle.spec_control.specs.ControlRun.{Fits, after_all}
use Rattle.spec_control.specs.Moments.{left_by}
use Rattle.control_laws.proofs.ListLemmas.{never}
use Rattle.control_laws.specs.Kept.{Kept}
use Rattle.control_laws.proofs.AskLemmas.{same_end}
use Rattle.control_laws.specs.OwnMoves.{own_moves, word_moves}
use Rattle.control_laws.proofs.GuardLemmas.{may_come}
use Rattle.control_laws.proofs.MetLemmas.{meets_cell}
use Rattle.control_laws.proofs.LeadLemmas.{attached_by}
use Rattle.control_laws.proofs.AttachedOnceLemmas.{IsOld, AreOld, old_run}
use Rattle.spec_run.specs.OpenSocket.{awaits_delimiter}
use Rattle.spec_run.specs.Event.{LooksBehind, LooksWhere}
use Rattle.socket_laws.specs.Open.{moment_at, left_before, ComesTo}
use Rattle.socket_laws.specs.Ways.{ActiveEndsStay, ReadsOn, OneEndReadsOn}
use Rattle.socket_laws.proofs.OpenLemmas.{all_kept, above, run_last}
use Rattle.socket_laws.proofs.LeftLemmas.{open_ends_are_left}
use Rattle.socket_laws.proofs.GoLemmas.{open_before, ends_of_it}
use Rattle.socket_laws.proofs.ToldLemmas.{pass_among}
use Rattle.socket_laws.proofs.StepLemmas.{term_in}
use Rattle.socket_laws.proofs.WayLemmas.{old_back, new_awaits}

-- ---- of lists
-- what is so of each of these ends is so of one that is among them
pub among_ends : (P : EndId → Type 0) (es : List EndId) → All P es → (e : EndId) → list_any (is_end e) es ≡ true → P e
among_ends P [] all e is = absurd (never is)
among_ends P (x ∷ es) all e is = by (is_end e x) refl (among_ends P es (All-tail P x es all) e) is
  where
    by : (b : Bool) → is_end e x ≡ b → (list_any (is_end e) es ≡ true → P e) → (b || list_any (is_end e) es) ≡ true → P e
    by true same rest found = subst P (sym (same_end e x same)) (All-head P x es all)
    by false other rest found = rest found

-- ---- a PipeTerm is the only command that leaves an end to read on
no_end : (b : Bool) → ((b && false) || false) ≡ false
no_end true = refl
no_end false = refl

one_end : (b : Bool) → ((b && true) || false) ≡ b
one_end true = refl
one_end false = refl

term_word : (e : EndId) (to : ℕ) (word : Word) → term_in e (word_moves to word) ≡ true → word ≡ PipeTerm e
term_word e to (Own child) h = absurd (never h)
term_word e to (Plug None) h = absurd (never h)
term_word e to (Plug (Some d)) h = absurd (never (sym (no_end (is_end e d)) ∙ h))
term_word e to (TermReq child) h = absurd (never h)
term_word e to Term h = absurd (never h)
term_word e to (TermAck child) h = absurd (never h)
term_word e to (PipeBind d peer) h = absurd (never (sym (no_end (is_end e d)) ∙ h))
term_word e to (PipeTerm d) h = ap (λ (x : EndId). PipeTerm x) (sym (same_end e d (sym (one_end (is_end e d)) ∙ h)))
term_word e to (PipeTermAck d) h = absurd (never (sym (no_end (is_end e d)) ∙ h))
term_word e to Stop h = absurd (never h)
term_word e to (Reap socket) h = absurd (never h)

-- the end that it comes to was in use, or was asked
record TermMeets (p : Place) : Type 0 where
  here : is_here p ≡ true
  reads : awaits_delimiter p ≡ false

term_meets : (p : Place) → meets (Happens TermCame) p ≡ true → TermMeets p
term_meets Unmade h = absurd (never h)
term_meets Away h = absurd (never h)
term_meets (At Active) h = record { here = refl; reads = refl }
term_meets (At DelimiterGot) h = record { here = refl; reads = refl }
term_meets (At WaitDelimiter) h = absurd (never h)
term_meets (At AckSent) h = absurd (never h)
term_meets (At AskedOnce) h = record { here = refl; reads = refl }
term_meets (At AskedTwice) h = absurd (never h)
term_meets (At Gone) h = absurd (never h)

pub old_ones : (c : Control) (o : ℕ) → AreOld c → All (IsOld c) (ends_of o c)
old_ones c o old = All-filter (λ e. owner_of c e == o) (IsOld c) c.attached old

-- ---- an event of an object
module _ {N S : Type 0} (c : Control) (kept : Kept c) (o : ℕ) (not_root : o ≢ 0) (old : AreOld c) where
  active_stay : (did : Did N S) → Fits c did → All (λ e. place_of (after did c) e ≡ At Active → place_of c e ≡ At Active) (ends_of o c)
  active_stay did fits =
      All-weaker (IsOld c) (λ e. place_of (after did c) e ≡ At Active → place_of c e ≡ At Active) (λ e is. (old_back c did kept fits e is.within is.at).active) (ends_of o c) (old_ones c o old)

  module _ (slot : ℕ) (letter : Letter) (h : Answered N S) (fits : Fits c (Delivered (record { 0 = slot }) letter h)) (of_it : letter.to.0 ≡ o) where
    abbrev did : Did N S
    did = Delivered (record { 0 = slot }) letter h

    abbrev d : Control
    d = after did c

    abbrev Reads : EndId → Type 0
    Reads e = awaits_delimiter (place_of d e) ≡ true → (awaits_delimiter (place_of c e) ≡ true) ⊎ (letter.word ≡ PipeTerm e)

    all_read : All Reads (ends_of o d)
    all_read =
        subst (λ (es : List EndId). All Reads es) (sym (ends_of_it c kept o not_root old did fits of_it))
        (All-append Reads (ends_of o c) (attached_by (own_moves c did)) (All-weaker (IsOld c) Reads was_read (ends_of o c) (old_ones c o old))
        (All-weaker (λ e. awaits_delimiter (place_of d e) ≡ true → term_in e (own_moves c did) ≡ true) Reads (λ e so is. inr (term_word e letter.to.0 letter.word (so is))) (attached_by (own_moves c did)) (new_awaits c did kept fits)))
      where
        was_read : (e : EndId) → IsOld c e → Reads e
        was_read e is now =
            elim ((old_back c did kept fits e is.within is.at).awaits now) [
              | inl was ↦ inl was
              | inr came ↦ inr (term_word e letter.to.0 letter.word came)
            ]

    -- the end that a PipeTerm comes to
    record IsIts (e : EndId) : Type 0 where
      among : list_any (is_end e) (ends_of o d) ≡ true
      reads : awaits_delimiter (place_of c e) ≡ false

    its_end : (e : EndId) → letter.word ≡ PipeTerm e → IsIts e
    its_end e is = record {
      among = ap (list_any (is_end e)) (ends_of_it c kept o not_root old did fits of_it) ∙ list_any-append (is_end e) (ends_of o c) (attached_by (own_moves c did))
          ∙ ap (λ (b : Bool). b || list_any (is_end e) (attached_by (own_moves c did))) was;
      reads = meets_it.reads;
    }
      where
        comes_at : c.boxes slot ≡ record { to = letter.to; word = PipeTerm e } ∷ fits.may.behind
        comes_at = fits.may.oldest ∙ ap (λ (w : Word). let l : Letter = record { to = letter.to; word = w } in l ∷ fits.may.behind) is

        meets_it : TermMeets (place_of c e)
        meets_it = term_meets (place_of c e) (meets_cell c kept e (Happens TermCame) (may_come c kept slot fits.may.behind letter.to.0 (PipeTerm e) comes_at).comes)

        own : (owner_of c e == o) ≡ true
        own = eq-eqb (owner_of c e) o ((may_come c kept slot fits.may.behind letter.to.0 (PipeTerm e) comes_at).owner ∙ of_it)

        was : list_any (is_end e) (ends_of o c) ≡ true
        was =
            among_ends (λ x. (owner_of c x == o) ≡ true → list_any (is_end x) (ends_of o c) ≡ true) c.attached (pass_among (λ x. owner_of c x == o) c.attached) e
            (kept.listed e.pair.0 e.a meets_it.here) own

    looks_none : (word : Word) → letter.word ≡ word → All (λ e. awaits_delimiter (place_of d e) ≡ true → awaits_delimiter (place_of c e) ≡ true) (ends_of o d) → LooksBehind {N = N} {S = S} d word []
    looks_none (Own child) is none = refl
    looks_none (Plug end) is none = refl
    looks_none (TermReq child) is none = refl
    looks_none Term is none = refl
    looks_none (TermAck child) is none = refl
    looks_none (PipeBind e peer) is none = refl
    looks_none (PipeTerm e) is none = by (awaits_delimiter (place_of d e)) refl
      where
        its : IsIts e
        its = its_end e is

        by : (b : Bool) → awaits_delimiter (place_of d e) ≡ b → LooksWhere {N = N} {S = S} b e []
        by true now = absurd (never (sym its.reads ∙ among_ends (λ x. awaits_delimiter (place_of d x) ≡ true → awaits_delimiter (place_of c x) ≡ true) (ends_of o d) none e its.among now))
        by false now = refl
    looks_none (PipeTermAck e) is none = refl
    looks_none Stop is none = refl
    looks_none (Reap socket) is none = refl

    pub reads_one : All (λ e. awaits_delimiter (place_of d e) ≡ true → awaits_delimiter (place_of c e) ≡ false → letter.word ≡ PipeTerm e) (ends_of o d)
    reads_one = All-weaker Reads (λ e. awaits_delimiter (place_of d e) ≡ true → awaits_delimiter (place_of c e) ≡ false → letter.word ≡ PipeTerm e) told (ends_of o d) all_read
      where
        told : (e : EndId) → Reads e → awaits_delimiter (place_of d e) ≡ true → awaits_delimiter (place_of c e) ≡ false → letter.word ≡ PipeTerm e
        told e reads now not_before =
            elim (reads now) [
              | inl was ↦ absurd (never (sym not_before ∙ was))
              | inr word ↦ word
            ]

-- ---- an item
module _ {N S : Type 0} (io : ℕ) (before : List (Item N S)) where
  active_in : (item : Item N S) (o : ℕ) → ComesTo io before item o →
      All (λ e. place_of (left_by (moment_at io before item)) e ≡ At Active → place_of (after_all before (begun io)) e ≡ At Active) (ends_of o (left_before io before item o))
  active_in (Event entry) o comes_so =
      let open_so = open_before io before (Event entry) o comes_so in
      let c = after_all before (begun io) in
      subst (λ (es : List EndId). All (λ e. place_of (after entry.did c) e ≡ At Active → place_of c e ≡ At Active) es) (sym (open_ends_are_left N S io before entry.by o open_so).ends)
      (active_stay c (all_kept io before entry.by o open_so) o (above io before entry.by o open_so) (old_run io before open_so.run) entry.did (run_last before (Event entry) (begun io) comes_so.run))
  active_in (Seen sight) o comes_so = λ k x lt e. e

  reads_in : (slot : ℕ) (letter : Letter) (b : ℕ) (h : Answered N S) (o : ℕ) → ComesTo io before (Event (record { by = b; did = Delivered (record { 0 = slot }) letter h })) o →
      ReadsOn o letter (moment_at io before (Event (record { by = b; did = Delivered (record { 0 = slot }) letter h })))
  reads_in slot letter b h o comes_so =
      let item = Event (record { by = b; did = Delivered (record { 0 = slot }) letter h }) in
      let open_so = open_before io before item o comes_so in
      let c = after_all before (begun io) in
      let kept = all_kept io before b o open_so in
      let not_root = above io before b o open_so in
      let old = old_run io before open_so.run in
      let fits = run_last before item (begun io) comes_so.run in
      record {
        one = reads_one c kept o not_root old slot letter h fits comes_so.of_it;
        none = λ all. looks_none c kept o not_root old slot letter h fits comes_so.of_it letter.word refl all;
      }

pub active_ends_stay : (N S : Type 0) → ActiveEndsStay N S
active_ends_stay N S io before item o comes_so = active_in io before item o comes_so

pub one_end_reads_on : (N S : Type 0) → OneEndReadsOn N S
one_end_reads_on N S io before item o comes_so slot letter delivery =
    subst (λ (x : Item N S). ReadsOn o letter (moment_at io before x)) (sym delivery.item_is)
    (reads_in io before slot letter delivery.by delivery.answered o (subst (λ (x : Item N S). ComesTo io before x o) delivery.item_is comes_so))
