-- Each object is told to end once, and each end gets one PipeTerm and one PipeTermAck and settles once.
use Rattle.std.specs.Prelude.{◌≡◌, ◌≤◌, ◌+◌, ℕ, zero, suc, Bool, true, false, cond, List, [], ◌∷◌, Option, Some, None, count_by, sum_by, slice_index_or, refl, ◌⊎◌, ◌<◌, not, map}
use Rattle.std.proofs.Common.{arith, ap, ◌∙◌, sym, inl, inr}
use Rattle.std.proofs.lemmas.List.Sums.{sum_by-append, sum_by_push, sum_by-cons}
use Rattle.zq_base.specs.declared.ids.EndId.{EndId}
use Rattle.zq_base.specs.declared.ids.Settled.{Settled}
use Rattle.spec_control.specs.declared.end.EndEvent.TheVariants.{DelimiterSeen, AckCame}
use Rattle.spec_control.specs.declared.letter.Letter.{Letter}
use Rattle.spec_control.specs.declared.letter.Word.{Word}
use Rattle.spec_control.specs.declared.letter.Word.TheVariants.{Own, Plug, TermReq, Term, TermAck, PipeBind, PipeTerm, PipeTermAck, Stop, Reap}
use Rattle.spec_control.specs.declared.entry.Did.{Did}
use Rattle.spec_control.specs.declared.entry.Did.TheVariants.{Asked, Delivered, Delimited}
use Rattle.spec_control.specs.declared.entry.Item.{Item}
use Rattle.spec_control.specs.declared.entry.Item.TheVariants.{Event, Seen}
use Rattle.spec_control.specs.Place.{Place, Unmade, At, EndWord, Binds, Terms, Acks, waiting, Half}
use Rattle.spec_control.specs.declared.end.EndState.TheVariants.{Gone}
use Rattle.spec_control.specs.Rows.{PairRow, root_alone, obj, pair, end_half, end_place, end_owner, IsInPhase}
use Rattle.spec_control.specs.Control.{Control, Settlement, begun, id, is_end, owner_of, happens, try_end, place_of, next_pair}
use Rattle.spec_control.specs.After.{Answers, answers_in, settle, processed, without_front, after}
use Rattle.spec_control.specs.ControlRun.{after_all, IsControlRun, Settles, Fits}
use Rattle.control_laws.specs.Mail.{Sign, Mark, OwnSign, RequestSign, ReapSign, AckSign, PlugSign, StopSign, TermSign, BindSign, PipeTermSign, PipeAckSign, DownLink, EndLink, end_mark, marks}
use Rattle.control_laws.specs.Kept.{Kept}
use Rattle.control_laws.proofs.RootLemmas.{begun_kept, runs_are_kept}
use Rattle.zq_base.specs.Ends.{other_end}
use Rattle.control_laws.proofs.LinkLemmas.{IsSeen, seen}
use Rattle.control_laws.proofs.SoundLemmas.{sound_of}
use Rattle.control_laws.proofs.GoneLemmas.{beside_gone, run_gone, begun_gone, gone_counts}
use Rattle.control_laws.specs.Once.{letters_in, all_taken, is_term, is_pipe_term_word, is_pipe_term, is_pipe_ack_word, is_pipe_ack, ComesOnce, CommandsComeOnce, HasSettled}
use Rattle.control_laws.proofs.FateLemmas.{answered_same, processed_same, happens_same, try_end_same, same_settles}
use Rattle.control_laws.proofs.OnceLemmas.{run_once, waits_here, waits_nowhere}
use Rattle.control_laws.proofs.TermOnceLemmas.{tells_left, tell_toll, told_step, told_tolls, term_mark, term_shows, term_waits}
use Rattle.control_laws.proofs.PairWeighLemmas.{end_weight}
use Rattle.control_laws.proofs.PairOnceLemmas.{term_word, term_to_put, ack_word, ack_to_put, term_fall, ack_fall, comes_left, comes_toll, comes_step, comes_waits, pipe_term_tolls, pipe_ack_tolls}

-- ---- signs on the link of an end
abbrev pipe_term_sign : Sign → ℕ
pipe_term_sign OwnSign = 0
pipe_term_sign RequestSign = 0
pipe_term_sign ReapSign = 0
pipe_term_sign AckSign = 0
pipe_term_sign PlugSign = 0
pipe_term_sign StopSign = 0
pipe_term_sign TermSign = 0
pipe_term_sign BindSign = 0
pipe_term_sign PipeTermSign = 1
pipe_term_sign PipeAckSign = 0

abbrev pipe_ack_sign : Sign → ℕ
pipe_ack_sign OwnSign = 0
pipe_ack_sign RequestSign = 0
pipe_ack_sign ReapSign = 0
pipe_ack_sign AckSign = 0
pipe_ack_sign PlugSign = 0
pipe_ack_sign StopSign = 0
pipe_ack_sign TermSign = 0
pipe_ack_sign BindSign = 0
pipe_ack_sign PipeTermSign = 0
pipe_ack_sign PipeAckSign = 1

abbrev pipe_term_mark : Mark → ℕ
pipe_term_mark m = pipe_term_sign m.sign

abbrev pipe_ack_mark : Mark → ℕ
pipe_ack_mark m = pipe_ack_sign m.sign

term_mark_is : (w : ℕ) (word : EndWord) → pipe_term_mark (end_mark w word) ≡ term_word word
term_mark_is w Binds = refl
term_mark_is w Terms = refl
term_mark_is w Acks = refl

ack_mark_is : (w : ℕ) (word : EndWord) → pipe_ack_mark (end_mark w word) ≡ ack_word word
ack_mark_is w Binds = refl
ack_mark_is w Terms = refl
ack_mark_is w Acks = refl

-- one mark on this link, or none
one_or_none : (sign : Mark → ℕ) (b : Bool) (m : Mark) (n : ℕ) → sign m ≡ n → ◌≡◌ {A = ℕ} (cond b n 0) (sum_by sign (cond b (m ∷ []) []))
one_or_none sign true m n e = omega (arith, e)
one_or_none sign false m n e = refl

nothing : (b : Bool) → ◌≡◌ {A = ℕ} 0 (cond b 0 0)
nothing true = refl
nothing false = refl

pipe_term_shows : (e : EndId) (l : Letter) → ◌≡◌ {A = ℕ} (cond (is_pipe_term e l) 1 0) (sum_by pipe_term_mark (marks (EndLink e.pair.0 e.a) l))
pipe_term_shows e l = by l.to.0 l.word
  where
    by : (to : ℕ) (word : Word) → ◌≡◌ {A = ℕ} (cond (is_pipe_term_word e word) 1 0) (sum_by pipe_term_mark (marks (EndLink e.pair.0 e.a) (record { to = id to; word = word })))
    by to (Own child) = refl
    by to (Plug None) = refl
    by to (Plug (Some d)) = nothing (is_end e d) ∙ one_or_none pipe_term_mark (is_end e d) (record { to = to; sign = BindSign }) 0 refl
    by to (TermReq child) = refl
    by to Term = refl
    by to (TermAck child) = refl
    by to (PipeBind d peer) = nothing (is_end e d) ∙ one_or_none pipe_term_mark (is_end e d) (record { to = to; sign = BindSign }) 0 refl
    by to (PipeTerm d) = one_or_none pipe_term_mark (is_end e d) (record { to = to; sign = PipeTermSign }) 1 refl
    by to (PipeTermAck d) = nothing (is_end e d) ∙ one_or_none pipe_term_mark (is_end e d) (record { to = to; sign = PipeAckSign }) 0 refl
    by to Stop = refl
    by to (Reap socket) = refl

pipe_ack_shows : (e : EndId) (l : Letter) → ◌≡◌ {A = ℕ} (cond (is_pipe_ack e l) 1 0) (sum_by pipe_ack_mark (marks (EndLink e.pair.0 e.a) l))
pipe_ack_shows e l = by l.to.0 l.word
  where
    by : (to : ℕ) (word : Word) → ◌≡◌ {A = ℕ} (cond (is_pipe_ack_word e word) 1 0) (sum_by pipe_ack_mark (marks (EndLink e.pair.0 e.a) (record { to = id to; word = word })))
    by to (Own child) = refl
    by to (Plug None) = refl
    by to (Plug (Some d)) = nothing (is_end e d) ∙ one_or_none pipe_ack_mark (is_end e d) (record { to = to; sign = BindSign }) 0 refl
    by to (TermReq child) = refl
    by to Term = refl
    by to (TermAck child) = refl
    by to (PipeBind d peer) = nothing (is_end e d) ∙ one_or_none pipe_ack_mark (is_end e d) (record { to = to; sign = BindSign }) 0 refl
    by to (PipeTerm d) = nothing (is_end e d) ∙ one_or_none pipe_ack_mark (is_end e d) (record { to = to; sign = PipeTermSign }) 0 refl
    by to (PipeTermAck d) = one_or_none pipe_ack_mark (is_end e d) (record { to = to; sign = PipeAckSign }) 1 refl
    by to Stop = refl
    by to (Reap socket) = refl

-- ---- an end whose pair is not made yet
new_term : (p : PairRow) (x : Bool) → p.a ≡ Unmade → p.b ≡ Unmade → end_weight term_word term_to_put p x ≡ 1
new_term p true a b = ap (λ (u : Place). sum_by term_word (waiting u p.b) + term_to_put p.b) a ∙ ap (λ (u : Place). 0 + term_to_put u) b
new_term p false a b = ap (λ (u : Place). sum_by term_word (waiting u p.a) + term_to_put p.a) b ∙ ap (λ (u : Place). 0 + term_to_put u) a

new_ack : (p : PairRow) (x : Bool) → p.a ≡ Unmade → p.b ≡ Unmade → end_weight ack_word ack_to_put p x ≡ 1
new_ack p true a b = ap (λ (u : Place). sum_by ack_word (waiting u p.b) + ack_to_put p.b) a ∙ ap (λ (u : Place). 0 + ack_to_put u) b
new_ack p false a b = ap (λ (u : Place). sum_by ack_word (waiting u p.a) + ack_to_put p.a) b ∙ ap (λ (u : Place). 0 + ack_to_put u) a

-- ---- settlements
abbrev is_of : EndId → Settlement → Bool
is_of e s = is_end e s.end

settled_by : (e : EndId) (at : ℕ) (word : Word) (h : Answers) (c : Control) → Settles c word h.counts → count_by (is_of e) (processed at word h c).settlements ≡ count_by (is_of e) c.settlements + cond (is_pipe_ack_word e word) 1 0
settled_by e at (PipeTermAck d) h c settles = by h.counts settles
  where
    by : (counts : Option Settled) → Settles c (PipeTermAck d) counts → count_by (is_of e) (try_end at h.left (settle d counts (happens AckCame d c))).settlements ≡ count_by (is_of e) c.settlements + cond (is_end e d) 1 0
    by None settles = absurd settles
    by (Some counts) settles =
        let heard = happens AckCame d c in
        let one : Settlement = record { end = d; counts = counts; reason = heard.reasons d } in
        let same = ap (count_by (is_of e)) (try_end_same at h.left (settle d (Some counts) heard)) in
        let more = sum_by_push (λ (s : Settlement). cond (is_of e s) 1 0) heard.settlements one in
        let before = ap (count_by (is_of e)) (happens_same AckCame d c) in
        omega (arith, same, more, before)
settled_by e at (Own child) h c settles = let same = ap (count_by (is_of e)) (processed_same at (Own child) h c refl) in omega (arith, same)
settled_by e at (Plug end) h c settles = let same = ap (count_by (is_of e)) (processed_same at (Plug end) h c refl) in omega (arith, same)
settled_by e at (TermReq child) h c settles = let same = ap (count_by (is_of e)) (processed_same at (TermReq child) h c refl) in omega (arith, same)
settled_by e at Term h c settles = let same = ap (count_by (is_of e)) (processed_same at Term h c refl) in omega (arith, same)
settled_by e at (TermAck child) h c settles = let same = ap (count_by (is_of e)) (processed_same at (TermAck child) h c refl) in omega (arith, same)
settled_by e at (PipeBind d peer) h c settles = let same = ap (count_by (is_of e)) (processed_same at (PipeBind d peer) h c refl) in omega (arith, same)
settled_by e at (PipeTerm d) h c settles = let same = ap (count_by (is_of e)) (processed_same at (PipeTerm d) h c refl) in omega (arith, same)
settled_by e at Stop h c settles = let same = ap (count_by (is_of e)) (processed_same at Stop h c refl) in omega (arith, same)
settled_by e at (Reap socket) h c settles = let same = ap (count_by (is_of e)) (processed_same at (Reap socket) h c refl) in omega (arith, same)

module _ {N S : Type 0} (e : EndId) where
  event_settles : (did : Did N S) (c : Control) → Fits c did → count_by (is_of e) (after did c).settlements ≡ count_by (is_of e) c.settlements + count_by (is_pipe_ack e) (letters_in did)
  event_settles (Asked req reply h) c fits = let same = ap (count_by (is_of e)) (answered_same req reply (answers_in h) c) in omega (arith, same)
  event_settles (Delivered slot letter h) c fits =
      let by = settled_by e letter.to.0 letter.word (answers_in h) (without_front slot.0 c) (same_settles c slot.0 letter.word h.settled fits.answered.settled) in
      omega (arith, by)
  event_settles (Delimited d h) c fits = let same = ap (count_by (is_of e)) (happens_same DelimiterSeen d c) in omega (arith, same)

  run_settles : (items : List (Item N S)) (c : Control) → IsControlRun c items → count_by (is_of e) (after_all items c).settlements ≡ count_by (is_of e) c.settlements + count_by (is_pipe_ack e) (all_taken items)
  run_settles [] c run = omega arith
  run_settles (Event entry ∷ items) c run =
      let now = event_settles entry.did c run.0 in
      let later = run_settles items (after entry.did c) run.1 in
      let split = sum_by-append (λ (l : Letter). cond (is_pipe_ack e l) 1 0) (letters_in entry.did) (all_taken items) in
      omega (arith, now, later, split)
  run_settles (Seen sight ∷ items) c run = run_settles items c run.1

-- ---- all of a run
pub commands_come_once : (N S : Type 0) → CommandsComeOnce N S
commands_come_once N S workers items run = record { terms = terms; pipe_terms = pipe_terms; pipe_acks = pipe_acks; settlements = settlements; gone = gone }
  where
    c : Control
    c = after_all items (begun workers)

    kept : Kept (after_all items (begun workers))
    kept = runs_are_kept N S workers items run

    term_run : (i : ℕ) → count_by (is_term i) (all_taken items) + tells_left i (after_all items (begun workers)).rows ≤ tells_left i root_alone
    term_run i = run_once (is_term i) (tells_left i) (tell_toll i) (told_step i) (told_tolls i) items (begun workers) (begun_kept workers) run

    told_first : (i : ℕ) → tells_left i root_alone ≤ 1
    told_first zero = omega arith
    told_first (suc i) = past i
      where
        past : (i : ℕ) → tells_left (suc i) root_alone ≤ 1
        past zero = omega arith
        past (suc i) = omega arith

    terms : (i : ℕ) → ComesOnce (is_term i) (obj (after_all items (begun workers)).rows i).slot (all_taken items) (after_all items (begun workers)).boxes
    terms i = record {
      here =
          let all = term_run i in
          let waits = waits_here (is_term i) (DownLink i) term_mark (term_shows i) (after_all items (begun workers)).rows (after_all items (begun workers)).boxes kept.delivered in
          let part = term_waits i (after_all items (begun workers)).rows in
          let first = told_first i in
          omega (arith, all, waits, part, first);
      elsewhere = waits_nowhere (is_term i) (DownLink i) term_mark (term_shows i) (after_all items (begun workers)).rows (after_all items (begun workers)).boxes kept.delivered;
    }

    pipe_term_run : (e : EndId) → count_by (is_pipe_term e) (all_taken items) + comes_left term_word term_to_put term_fall refl new_term e (after_all items (begun workers)).rows ≤ comes_left term_word term_to_put term_fall refl new_term e root_alone
    pipe_term_run e =
        run_once (is_pipe_term e) (comes_left term_word term_to_put term_fall refl new_term e) (comes_toll term_word term_to_put term_fall refl new_term e) (comes_step term_word term_to_put term_fall refl new_term e)
        (pipe_term_tolls e (comes_toll term_word term_to_put term_fall refl new_term e) (λ d. refl)) items (begun workers) (begun_kept workers) run

    pipe_ack_run : (e : EndId) → count_by (is_pipe_ack e) (all_taken items) + comes_left ack_word ack_to_put ack_fall refl new_ack e (after_all items (begun workers)).rows ≤ comes_left ack_word ack_to_put ack_fall refl new_ack e root_alone
    pipe_ack_run e =
        run_once (is_pipe_ack e) (comes_left ack_word ack_to_put ack_fall refl new_ack e) (comes_toll ack_word ack_to_put ack_fall refl new_ack e) (comes_step ack_word ack_to_put ack_fall refl new_ack e)
        (pipe_ack_tolls e (comes_toll ack_word ack_to_put ack_fall refl new_ack e) (λ d. refl)) items (begun workers) (begun_kept workers) run

    first_end : (g : EndWord → ℕ) (h : Place → ℕ) → h (At Gone) ≡ 0 → ((x : Bool) → end_weight g h (record { a_owner = 0; b_owner = 0; a = Unmade; b = Unmade }) x ≡ 1) → (k : ℕ) (x : Bool) →
        end_weight g h (slice_index_or root_alone.pairs k (record { a_owner = 0; b_owner = 0; a = Unmade; b = Unmade })) x ≤ 1
    first_end g h gone new zero true = omega (arith, gone)
    first_end g h gone new zero false = omega (arith, gone)
    first_end g h gone new (suc zero) x = let one = new x in omega (arith, one)
    first_end g h gone new (suc (suc k)) x = let one = new x in omega (arith, one)

    pipe_terms : (e : EndId) → ComesOnce (is_pipe_term e) (obj (after_all items (begun workers)).rows (owner_of (after_all items (begun workers)) e)).slot (all_taken items) (after_all items (begun workers)).boxes
    pipe_terms e = record {
      here =
          let all = pipe_term_run e in
          let waits = waits_here (is_pipe_term e) (EndLink e.pair.0 e.a) pipe_term_mark (pipe_term_shows e) (after_all items (begun workers)).rows (after_all items (begun workers)).boxes kept.delivered in
          let part = comes_waits term_word term_to_put term_fall refl new_term e pipe_term_mark term_mark_is (after_all items (begun workers)).rows in
          let first = first_end term_word term_to_put refl (λ x. new_term (record { a_owner = 0; b_owner = 0; a = Unmade; b = Unmade }) x refl refl) e.pair.0 e.a in
          omega (arith, all, waits, part, first);
      elsewhere = waits_nowhere (is_pipe_term e) (EndLink e.pair.0 e.a) pipe_term_mark (pipe_term_shows e) (after_all items (begun workers)).rows (after_all items (begun workers)).boxes kept.delivered;
    }

    ack_all : (e : EndId) → count_by (is_pipe_ack e) (all_taken items) + comes_left ack_word ack_to_put ack_fall refl new_ack e (after_all items (begun workers)).rows ≤ 1
    ack_all e =
        let all = pipe_ack_run e in
        let first = first_end ack_word ack_to_put refl (λ x. new_ack (record { a_owner = 0; b_owner = 0; a = Unmade; b = Unmade }) x refl refl) e.pair.0 e.a in
        omega (arith, all, first)

    pipe_acks : (e : EndId) → ComesOnce (is_pipe_ack e) (obj (after_all items (begun workers)).rows (owner_of (after_all items (begun workers)) e)).slot (all_taken items) (after_all items (begun workers)).boxes
    pipe_acks e = record {
      here =
          let all = ack_all e in
          let waits = waits_here (is_pipe_ack e) (EndLink e.pair.0 e.a) pipe_ack_mark (pipe_ack_shows e) (after_all items (begun workers)).rows (after_all items (begun workers)).boxes kept.delivered in
          let part = comes_waits ack_word ack_to_put ack_fall refl new_ack e pipe_ack_mark ack_mark_is (after_all items (begun workers)).rows in
          omega (arith, all, waits, part);
      elsewhere = waits_nowhere (is_pipe_ack e) (EndLink e.pair.0 e.a) pipe_ack_mark (pipe_ack_shows e) (after_all items (begun workers)).rows (after_all items (begun workers)).boxes kept.delivered;
    }

    settlements : (e : EndId) → count_by (λ s. is_end e s.end) (after_all items (begun workers)).settlements ≤ 1
    settlements e = let settled = run_settles e items (begun workers) run in let all = ack_all e in omega (arith, settled, all)

    heard : (e : EndId) → 0 < e.pair.0 → e.pair.0 < next_pair (after_all items (begun workers)) → place_of (after_all items (begun workers)) e ≡ At Gone → count_by (is_pipe_ack e) (all_taken items) ≡ 1
    heard e above there is =
        let risen = run_gone e items (begun workers) (begun_kept workers) run in
        let none = begun_gone e above in
        let now = gone_counts e (after_all items (begun workers)).rows there is in
        let most = ack_all e in
        omega (arith, risen, none, now, most)

    gone : (e : EndId) → 0 < e.pair.0 → e.pair.0 < next_pair (after_all items (begun workers)) → place_of (after_all items (begun workers)) e ≡ At Gone → HasSettled e (all_taken items) (after_all items (begun workers))
    gone e above there is = record {
      heard = heard e above there is;
      settled = let settled = run_settles e items (begun workers) run in let one = heard e above there is in omega (arith, settled, one);
      sent =
          elim beside [
            | inl other_gone ↦ let one = heard (other_end e) above there other_gone in let most = (pipe_acks (other_end e)).here in omega (arith, one, most)
            | inr one ↦
                let waits = waits_here (is_pipe_ack (other_end e)) (EndLink e.pair.0 (not e.a)) pipe_ack_mark (pipe_ack_shows (other_end e)) (after_all items (begun workers)).rows (after_all items (begun workers)).boxes kept.delivered in
                let same = signs (end_owner (pair (after_all items (begun workers)).rows e.pair.0) (not e.a)) (end_half (pair (after_all items (begun workers)).rows e.pair.0) (not e.a)).mail in
                let most = (pipe_acks (other_end e)).here in
                omega (arith, waits, same, one, most)
          ];
    }
      where
        signs : (w : ℕ) (ws : List EndWord) → sum_by pipe_ack_mark (map (end_mark w) ws) ≡ sum_by ack_word ws
        signs w [] = refl
        signs w (x ∷ ws) = let a = sum_by-cons pipe_ack_mark (end_mark w x) (map (end_mark w) ws) in let b = sum_by-cons ack_word x ws in let c = signs w ws in let f = ack_mark_is w x in omega (arith, a, b, c, f)

        phase : IsInPhase (pair (after_all items (begun workers)).rows e.pair.0)
        phase = (sound_of (after_all items (begun workers)) kept).phases e.pair.0

        view : IsSeen (pair (after_all items (begun workers)).rows e.pair.0) e.a
        view = seen (pair (after_all items (begun workers)).rows e.pair.0) phase e.a

        beside : (end_place (pair (after_all items (begun workers)).rows e.pair.0) (not e.a) ≡ At Gone) ⊎ (sum_by ack_word (end_half (pair (after_all items (begun workers)).rows e.pair.0) (not e.a)).mail ≡ 1)
        beside =
            elim (beside_gone view.phase view.first (sym (ap (λ (h : Half). h.place) view.mine) ∙ is)) [
              | inl other ↦ inl (ap (λ (h : Half). h.place) view.theirs ∙ other)
              | inr one ↦ inr (ap (λ (h : Half). sum_by ack_word h.mail) view.theirs ∙ one)
            ]
