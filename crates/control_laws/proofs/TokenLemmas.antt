-- Each move that an event makes by itself lowers the count of what may still be processed and accepted.
use Rattle.std.specs.Prelude.{◌≡◌, ◌≤◌, ◌+◌, ◌&&◌, ℕ, zero, suc, Bool, true, false, not, cond, List, [], ◌∷◌, sum_by, slice_index_or, refl}
use Rattle.std.proofs.Common.{arith, sym, ap, ◌∙◌}
use Rattle.std.proofs.lemmas.List.Sums.{sum_by-set, sum_by_push, sum_by-cons, sum_by-le-sum_by}
use Rattle.spec_control.specs.declared.end.EndState.TheVariants.{Active, DelimiterGot, WaitDelimiter, AckSent, AskedOnce, AskedTwice, Gone}
use Rattle.spec_control.specs.declared.end.EndEvent.{EndEvent}
use Rattle.spec_control.specs.declared.end.EndEvent.TheVariants.{Asked, TermCame, DelimiterSeen, AckCame}
use Rattle.spec_control.specs.declared.stage.Stage.{Stage}
use Rattle.spec_control.specs.declared.stage.Stage.TheVariants.{Alive, Told, Ending, Finished, Cleared}
use Rattle.spec_control.specs.declared.stage.Use.{Use}
use Rattle.spec_control.specs.declared.stage.Use.TheVariants.{Unused, OnItsWay, Used}
use Rattle.spec_control.specs.Stage.{is_alive, is_told, is_finished, is_unused, is_coming}
use Rattle.spec_control.specs.Place.{Place, Unmade, Away, At, EndWord, is_unmade, waiting, to_put}
use Rattle.spec_control.specs.PairPhase.{Phase, Drawn, Opened, OpenedAsked, OpenedSeen, Both, BothSeen, BothSaw, AskedOne, Waits, Seen, Crossed, CrossedOne, CrossedBoth, Acked, FirstGone, LastOne, Over, place_in, PairEvent, Opens, BindCame, Happens, may, words_at, place_after, other_after}
use Rattle.spec_control.specs.Row.{Row, nobody, LinkEvent, OwnComes, PlugComes, IsTold, TermComes, AsksOver, RequestComes, ReapComes, AckComes, RootAsked, StopPut, StopComes, AsksForLink, AsksForLinger, link_may, link_after, is_socket, is_session}
use Rattle.spec_control.specs.Rows.{Rows, PairRow, no_pair, obj, pair, end_half, pair_after, IsInPhase, may_end}
use Rattle.spec_control.specs.Quiescence.{stage_tokens, use_tokens, stop_tokens, object_tokens, pair_tokens, tokens_left}
use Rattle.control_laws.proofs.ListLemmas.{never, left, right}
use Rattle.control_laws.proofs.RowLemmas.{pair_there}
use Rattle.control_laws.proofs.EndLemmas.{may_end_is}
use Rattle.control_laws.specs.Move.{Move, LinkMoves, EndMoves, ObjectEnds, ObjectMade, PairDrawn, LetterPut, move_rows, MayMove, is_named_link, is_named}
use Rattle.control_laws.proofs.SoundLemmas.{Sound, link_there, ending_there}
use Rattle.control_laws.proofs.PairWeighLemmas.{word_toll, made_toll, FallsBy, end_weight, mine_falls, theirs_fall, binds_away}

-- ---- an object: also a Stop that may still be put
abbrev pub row_tokens : Row → ℕ
row_tokens o = object_tokens o + cond (link_may StopPut o) 1 0

abbrev pub link_cost : LinkEvent → ℕ
link_cost e = cond (is_named_link e) 1 0

alive_tokens : (b : Bool) (s : Stage) → is_alive s ≡ true → stage_tokens b s ≡ 2 + cond b 1 0
alive_tokens b Alive h = refl
alive_tokens b Told h = absurd (never h)
alive_tokens b Ending h = absurd (never h)
alive_tokens b Finished h = absurd (never h)
alive_tokens b Cleared h = absurd (never h)

told_tokens : (b : Bool) (s : Stage) → is_told s ≡ true → stage_tokens b s ≡ 2 + cond b 1 0
told_tokens b Told h = refl
told_tokens b Alive h = absurd (never h)
told_tokens b Ending h = absurd (never h)
told_tokens b Finished h = absurd (never h)
told_tokens b Cleared h = absurd (never h)

finished_tokens : (b : Bool) (s : Stage) → is_finished s ≡ true → stage_tokens b s ≡ 1
finished_tokens b Finished h = refl
finished_tokens b Alive h = absurd (never h)
finished_tokens b Told h = absurd (never h)
finished_tokens b Ending h = absurd (never h)
finished_tokens b Cleared h = absurd (never h)

coming_tokens : (r : Use) → is_coming r ≡ true → use_tokens r ≡ 1
coming_tokens OnItsWay h = refl
coming_tokens Unused h = absurd (never h)
coming_tokens Used h = absurd (never h)

coming_stop : (r : Use) → is_coming r ≡ true → stop_tokens r ≡ 1
coming_stop OnItsWay h = refl
coming_stop Unused h = absurd (never h)
coming_stop Used h = absurd (never h)

unused_tokens : (r : Use) → is_unused r ≡ true → use_tokens r ≡ 2
unused_tokens Unused h = refl
unused_tokens OnItsWay h = absurd (never h)
unused_tokens Used h = absurd (never h)

unused_stop : (r : Use) → is_unused r ≡ true → stop_tokens r ≡ 0
unused_stop Unused h = refl
unused_stop OnItsWay h = absurd (never h)
unused_stop Used h = absurd (never h)

no_token : (b : Bool) → not b ≡ true → ◌≡◌ {A = ℕ} (cond b 0 1) 1
no_token false h = refl
no_token true h = absurd (never h)

-- a Stop may be put no more where it is put, or where one of these no longer holds
stop_off : (u r k a : Bool) → a ≡ false → ◌≡◌ {A = ℕ} (cond (u && (r && (k && a))) 1 0) 0
stop_off u r k true h = absurd (never (sym h))
stop_off true true true false h = refl
stop_off true true false false h = refl
stop_off true false k false h = refl
stop_off false r k false h = refl

row_cost : (e : LinkEvent) (o : Row) → link_may e o ≡ true → row_tokens (link_after e o) + link_cost e ≤ row_tokens o
row_cost OwnComes o may_so = let n = no_token o.noted may_so in omega (arith, n)
row_cost PlugComes o may_so = let n = no_token o.plugged may_so in omega (arith, n)
row_cost IsTold o may_so =
    let n = alive_tokens (is_session o.kind) o.stage (left _ _ may_so) in
    let off = stop_off (is_unused o.stop) (is_unused o.request) (is_socket o.kind) false refl in
    omega (arith, n, off)
row_cost TermComes o may_so =
    let n = told_tokens (is_session o.kind) o.stage (left _ _ may_so) in
    let off = stop_off (is_unused o.stop) (is_unused o.request) (is_socket o.kind) false refl in
    omega (arith, n, off)
row_cost AsksOver o may_so = let n = unused_tokens o.request (left _ _ may_so) in let off = request_off (is_unused o.stop) (is_socket o.kind) (is_alive o.stage) in omega (arith, n, off)
  where
    request_off : (u k a : Bool) → ◌≡◌ {A = ℕ} (cond (u && (false && (k && a))) 1 0) 0
    request_off true k a = refl
    request_off false k a = refl
row_cost RequestComes o may_so = let n = coming_tokens o.request (left _ _ may_so) in let off = request_off (is_unused o.stop) (is_socket o.kind) (is_alive o.stage) in omega (arith, n, off)
  where
    request_off : (u k a : Bool) → ◌≡◌ {A = ℕ} (cond (u && (false && (k && a))) 1 0) 0
    request_off true k a = refl
    request_off false k a = refl
row_cost ReapComes o may_so =
    let n = coming_tokens o.request (left _ _ may_so) in
    let a = alive_tokens (is_session o.kind) o.stage (left _ _ (right (is_coming o.request) _ may_so)) in
    let off = stop_off (is_unused o.stop) false (is_socket o.kind) false refl in
    omega (arith, n, a, off)
row_cost AckComes o may_so =
    let n = finished_tokens (is_session o.kind) o.stage (left _ _ may_so) in
    let off = stop_off (is_unused o.stop) (is_unused o.request) (is_socket o.kind) false refl in
    omega (arith, n, off)
row_cost RootAsked o may_so =
    let n = alive_tokens (is_session o.kind) o.stage (left _ _ may_so) in
    let off = stop_off (is_unused o.stop) (is_unused o.request) (is_socket o.kind) false refl in
    omega (arith, n, off)
row_cost StopPut o may_so = let n = unused_stop o.stop (left _ _ may_so) in let on = ap {B = ℕ} (λ (b : Bool). cond b 1 0) may_so in omega (arith, n, on)
row_cost StopComes o may_so = let n = coming_stop o.stop (left _ _ may_so) in omega (arith, n)
row_cost AsksForLink o may_so = let n = no_token o.asked_link (left _ _ may_so) in omega (arith, n)
row_cost AsksForLinger o may_so = let n = no_token o.asked_linger (left _ _ may_so) in omega (arith, n)

-- ---- a pair: each word that is on its way, and each that may be put
abbrev pub any_word : EndWord → ℕ
any_word w = 1

abbrev pub words_to_put : Place → ℕ
words_to_put place = to_put place + cond (is_unmade place) 1 0

abbrev pub pair_weight : PairRow → ℕ
pair_weight p = end_weight any_word words_to_put p true + end_weight any_word words_to_put p false

words_local : (event : EndEvent) (place : Place) → sum_by any_word (words_at (Happens event) place) + words_to_put (place_after (Happens event) place) ≤ words_to_put place
words_local event Unmade = omega arith
words_local event Away = omega arith
words_local (Asked reason true) (At Active) = omega arith
words_local (Asked reason true) (At DelimiterGot) = omega arith
words_local (Asked reason true) (At WaitDelimiter) = omega arith
words_local (Asked reason true) (At AckSent) = omega arith
words_local (Asked reason true) (At AskedOnce) = omega arith
words_local (Asked reason true) (At AskedTwice) = omega arith
words_local (Asked reason true) (At Gone) = omega arith
words_local (Asked reason false) (At Active) = omega arith
words_local (Asked reason false) (At DelimiterGot) = omega arith
words_local (Asked reason false) (At WaitDelimiter) = omega arith
words_local (Asked reason false) (At AckSent) = omega arith
words_local (Asked reason false) (At AskedOnce) = omega arith
words_local (Asked reason false) (At AskedTwice) = omega arith
words_local (Asked reason false) (At Gone) = omega arith
words_local TermCame (At Active) = omega arith
words_local TermCame (At DelimiterGot) = omega arith
words_local TermCame (At WaitDelimiter) = omega arith
words_local TermCame (At AckSent) = omega arith
words_local TermCame (At AskedOnce) = omega arith
words_local TermCame (At AskedTwice) = omega arith
words_local TermCame (At Gone) = omega arith
words_local DelimiterSeen (At Active) = omega arith
words_local DelimiterSeen (At DelimiterGot) = omega arith
words_local DelimiterSeen (At WaitDelimiter) = omega arith
words_local DelimiterSeen (At AckSent) = omega arith
words_local DelimiterSeen (At AskedOnce) = omega arith
words_local DelimiterSeen (At AskedTwice) = omega arith
words_local DelimiterSeen (At Gone) = omega arith
words_local AckCame (At Active) = omega arith
words_local AckCame (At DelimiterGot) = omega arith
words_local AckCame (At WaitDelimiter) = omega arith
words_local AckCame (At AckSent) = omega arith
words_local AckCame (At AskedOnce) = omega arith
words_local AckCame (At AskedTwice) = omega arith
words_local AckCame (At Gone) = omega arith

unmade_words : (place : Place) → is_unmade place ≡ true → words_to_put place ≡ 3
unmade_words Unmade h = refl
unmade_words Away h = absurd (never h)
unmade_words (At state) h = absurd (never h)

pub words_fall : FallsBy any_word words_to_put 1
words_fall = record { mine = mine; theirs = theirs }
  where
    away : (x : Place) → x ≡ Away → words_to_put x ≡ 2
    away x e = ap words_to_put e

    mine : (e : PairEvent) (x y : Place) (ws : List EndWord) → may e (record { place = x; mail = waiting x y }) (record { place = y; mail = ws }) ≡ true → sum_by any_word (words_at e x) + words_to_put (place_after e x) ≤ words_to_put x
    mine Opens x y ws comes = let one = unmade_words x (left _ _ comes) in omega (arith, one)
    mine BindCame x y ws comes = let one = away x (binds_away x y comes) in omega (arith, one)
    mine (Happens event) x y ws comes = words_local event x

    theirs : (e : PairEvent) (x y : Place) (ws : List EndWord) → may e (record { place = x; mail = waiting x y }) (record { place = y; mail = ws }) ≡ true → words_to_put (other_after e y) + made_toll 1 e ≤ words_to_put y
    theirs Opens x y ws comes = let one = unmade_words y (right (is_unmade x) _ comes) in omega (arith, one)
    theirs BindCame x y ws comes = omega arith
    theirs (Happens event) x y ws comes = omega arith

abbrev pub pair_cost : PairEvent → ℕ
pair_cost e = word_toll any_word e + made_toll 1 e

pair_falls : (e : PairEvent) (a : Bool) (p : PairRow) → IsInPhase p → may e (end_half p a) (end_half p (not a)) ≡ true → pair_weight (pair_after e a p) + pair_cost e ≤ pair_weight p
pair_falls e true p phase comes =
    let mine = mine_falls any_word words_to_put 1 words_fall e true p phase comes in
    let theirs = theirs_fall any_word words_to_put 1 words_fall e true p phase comes in
    omega (arith, mine, theirs)
pair_falls e false p phase comes =
    let mine = mine_falls any_word words_to_put 1 words_fall e false p phase comes in
    let theirs = theirs_fall any_word words_to_put 1 words_fall e false p phase comes in
    omega (arith, mine, theirs)

-- ---- all together
abbrev pub weight_left : Rows → ℕ
weight_left s = sum_by row_tokens s.objects + sum_by pair_weight s.pairs

abbrev pub token_toll : Move → ℕ
token_toll (LinkMoves i event) = link_cost event
token_toll (EndMoves e event) = pair_cost event
token_toll (ObjectEnds i) = 0
token_toll (ObjectMade row) = 0
token_toll (PairDrawn x y) = 0
token_toll (LetterPut to word) = 0

abbrev pub token_gain : Move → ℕ
token_gain (LinkMoves i event) = 0
token_gain (EndMoves e event) = 0
token_gain (ObjectEnds i) = 0
token_gain (ObjectMade row) = row_tokens row
token_gain (PairDrawn x y) = 6
token_gain (LetterPut to word) = 0

pub token_free : (m : Move) → is_named m ≡ false → token_gain m ≡ 0
token_free (LinkMoves i event) h = refl
token_free (EndMoves e event) h = refl
token_free (ObjectEnds i) h = refl
token_free (ObjectMade row) h = absurd (never (sym h))
token_free (PairDrawn x y) h = absurd (never (sym h))
token_free (LetterPut to word) h = refl

-- an end of an object: of a session also its word that its output is over
end_tokens : (b : Bool) → stage_tokens b Finished + cond b 1 0 ≤ stage_tokens b Ending
end_tokens true = omega arith
end_tokens false = omega arith

pub end_falls : (s : Rows) (i : ℕ) → may_end s i ≡ true → weight_left (move_rows (ObjectEnds i) s) + cond (is_session (obj s i).kind) 1 0 ≤ weight_left s
end_falls s i may_so =
    let o = obj s i in
    let set = sum_by-set row_tokens s.objects i (record o { stage = Finished }) nobody (ending_there s i may_so) in
    let asked = (may_end_is s i may_so).asked in
    let stage = ap (stage_tokens (is_session o.kind)) asked in
    let less = end_tokens (is_session o.kind) in
    let off = stop_off (is_unused o.stop) (is_unused o.request) (is_socket o.kind) false refl in
    omega (arith, set, stage, less, off)

pub token_step : (m : Move) (s : Rows) → Sound s → MayMove m s → weight_left (move_rows m s) + token_toll m ≤ weight_left s + token_gain m
token_step (LinkMoves i event) s sound may_so =
    let set = sum_by-set row_tokens s.objects i (link_after event (obj s i)) nobody (link_there s i event may_so) in
    let less = row_cost event (obj s i) may_so in
    omega (arith, set, less)
token_step (EndMoves e event) s sound may_so =
    let set = sum_by-set pair_weight s.pairs e.pair.0 (pair_after event e.a (pair s e.pair.0)) no_pair (pair_there s e.pair.0 e.a event may_so.comes) in
    let less = pair_falls event e.a (pair s e.pair.0) (sound.phases e.pair.0) may_so.comes in
    omega (arith, set, less)
token_step (ObjectEnds i) s sound may_so = let less = end_falls s i may_so in omega (arith, less)
token_step (ObjectMade row) s sound may_so = let more = sum_by_push row_tokens s.objects row in omega (arith, more)
token_step (PairDrawn x y) s sound may_so = let more = sum_by_push pair_weight s.pairs (record { a_owner = x; b_owner = y; a = Unmade; b = Unmade }) in omega (arith, more)
token_step (LetterPut to word) s sound may_so = omega arith

-- ---- the count of what may still come is this weight
phase_tokens : (phase : Phase) (first : Bool) (x y : ℕ) →
    pair_tokens (record { a_owner = x; b_owner = y; a = place_in phase first; b = place_in phase (not first) }) ≡ pair_weight (record { a_owner = x; b_owner = y; a = place_in phase first; b = place_in phase (not first) })
phase_tokens Drawn true x y = omega arith
phase_tokens Drawn false x y = omega arith
phase_tokens Opened true x y = omega arith
phase_tokens Opened false x y = omega arith
phase_tokens OpenedAsked true x y = omega arith
phase_tokens OpenedAsked false x y = omega arith
phase_tokens OpenedSeen true x y = omega arith
phase_tokens OpenedSeen false x y = omega arith
phase_tokens Both true x y = omega arith
phase_tokens Both false x y = omega arith
phase_tokens BothSeen true x y = omega arith
phase_tokens BothSeen false x y = omega arith
phase_tokens BothSaw true x y = omega arith
phase_tokens BothSaw false x y = omega arith
phase_tokens AskedOne true x y = omega arith
phase_tokens AskedOne false x y = omega arith
phase_tokens Waits true x y = omega arith
phase_tokens Waits false x y = omega arith
phase_tokens Seen true x y = omega arith
phase_tokens Seen false x y = omega arith
phase_tokens Crossed true x y = omega arith
phase_tokens Crossed false x y = omega arith
phase_tokens CrossedOne true x y = omega arith
phase_tokens CrossedOne false x y = omega arith
phase_tokens CrossedBoth true x y = omega arith
phase_tokens CrossedBoth false x y = omega arith
phase_tokens Acked true x y = omega arith
phase_tokens Acked false x y = omega arith
phase_tokens FirstGone true x y = omega arith
phase_tokens FirstGone false x y = omega arith
phase_tokens LastOne true x y = omega arith
phase_tokens LastOne false x y = omega arith
phase_tokens Over true x y = omega arith
phase_tokens Over false x y = omega arith

pair_same : (p : PairRow) → IsInPhase p → pair_tokens p ≡ pair_weight p
pair_same p h =
    let all = phase_tokens h.phase h.first p.a_owner p.b_owner in
    let tokens = ap (λ (q : Place). pair_tokens (record p { a = q; b = p.b })) h.a_is ∙ ap (λ (q : Place). pair_tokens (record p { a = place_in h.phase h.first; b = q })) h.b_is in
    let weight = ap (λ (q : Place). pair_weight (record p { a = q; b = p.b })) h.a_is ∙ ap (λ (q : Place). pair_weight (record p { a = place_in h.phase h.first; b = q })) h.b_is in
    omega (arith, all, tokens, weight)

pairs_same : (ps : List PairRow) → ((k : ℕ) → IsInPhase (slice_index_or ps k no_pair)) → sum_by pair_tokens ps ≡ sum_by pair_weight ps
pairs_same [] h = refl
pairs_same (p ∷ ps) h =
    let a = sum_by-cons pair_tokens p ps in
    let b = sum_by-cons pair_weight p ps in
    let one = pair_same p (h zero) in
    let more = pairs_same ps (λ k. h (suc k)) in
    omega (arith, a, b, one, more)

pub pair_sums : (s : Rows) → Sound s → sum_by pair_tokens s.pairs ≡ sum_by pair_weight s.pairs
pair_sums s sound = pairs_same s.pairs sound.phases

pub tokens_within : (s : Rows) → Sound s → tokens_left s ≤ weight_left s
tokens_within s sound =
    let objects = sum_by-le-sum_by object_tokens row_tokens s.objects (λ o. omega arith) in
    let pairs = pair_sums s sound in
    omega (arith, objects, pairs)
