-- What the event of a row or of a pair puts was to come.
use Rattle.std.specs.Prelude.{◌≡◌, ◌≤◌, ◌+◌, ◌==◌, ◌&&◌, ℕ, Bool, true, false, not, cond, List, [], ◌∷◌, ◌++◌, Option, Some, None, length, sum_by, refl}
use Rattle.std.proofs.Common.{arith, sym, ap, inl, inr, length-append}
use Rattle.std.proofs.lemmas.Bool.{eq-eqb, ne_eqb, cases_eq}
use Rattle.std.proofs.lemmas.List.Sums.{sum_by-cons}
use Rattle.zq_base.specs.Ends.{other_end}
use Rattle.zq_base.specs.declared.ids.EndId.{EndId}
use Rattle.spec_control.specs.declared.end.EndState.TheVariants.{Active, DelimiterGot, WaitDelimiter, AckSent, AskedOnce, AskedTwice, Gone}
use Rattle.spec_control.specs.declared.end.EndEvent.{EndEvent}
use Rattle.spec_control.specs.declared.end.EndEvent.TheVariants.{Asked, TermCame, DelimiterSeen, AckCame}
use Rattle.spec_control.specs.declared.letter.Letter.{Letter}
use Rattle.spec_control.specs.declared.letter.Word.{Word}
use Rattle.spec_control.specs.declared.end.EndCommands.{EndCommands}
use Rattle.spec_control.specs.declared.end.EndCommands.TheVariants.{Nothing, TermAndSeal, Ack, Settle, SettleAndAck}
use Rattle.spec_control.specs.declared.letter.Word.TheVariants.{TermReq, Term, TermAck, PipeTerm, PipeTermAck, Stop, Reap}
use Rattle.spec_control.specs.declared.stage.Stage.{Stage}
use Rattle.spec_control.specs.declared.stage.Stage.TheVariants.{Alive, Told, Ending, Finished, Cleared}
use Rattle.spec_control.specs.Stage.{is_alive, is_told, has_ended, is_unused, is_coming}
use Rattle.spec_control.specs.Place.{Place, Unmade, Away, At, is_unmade, to_put}
use Rattle.spec_control.specs.PairPhase.{PairEvent, Opens, BindCame, Happens, may, place_after, other_after}
use Rattle.spec_control.specs.Row.{Row, LinkEvent, OwnComes, PlugComes, IsTold, TermComes, AsksOver, RequestComes, ReapComes, AckComes, RootAsked, StopPut, StopComes, AsksForLink, AsksForLinger, link_may, link_after, is_socket, is_unowned}
use Rattle.spec_control.specs.Rows.{Rows, PairRow, obj, end_place, end_owner, end_half, pair_after}
use Rattle.spec_control.specs.Control.{with_value, id, commands_in}
use Rattle.spec_control.specs.After.{owner_or_root}
use Rattle.control_laws.proofs.ListLemmas.{never, left, right, is_false}
use Rattle.control_laws.proofs.StepLemmas.{same_slot, same_owner}
use Rattle.control_laws.proofs.MailLemmas.{value_here, value_else}
use Rattle.control_laws.specs.Move.{one_letter, link_letters, end_letters, pair_letters, ack_letters, put_all}
use Rattle.control_laws.specs.Room.{down_to_come, up_to_come, row_to_come, pair_to_come}
use Rattle.control_laws.proofs.PairWeighLemmas.{binds_away}

-- ---- how long a mailbox is behind a put
length_put : (m slot : ℕ) (l : Letter) (boxes : ℕ → List Letter) → length (with_value slot (boxes slot ++ l ∷ []) boxes m) ≡ length (boxes m) + cond (slot == m) 1 0
length_put m slot l boxes =
    elim (cases_eq m slot) [
      | inl at ↦
          let here = ap (λ (k : ℕ). length (with_value slot (boxes slot ++ l ∷ []) boxes k)) at in
          let value = ap length (value_here slot (boxes slot ++ l ∷ []) boxes) in
          let more = length-append (boxes slot) (l ∷ []) in
          let was = ap (λ (k : ℕ). length (boxes k)) at in
          let on = ap {B = ℕ} (λ (b : Bool). cond b 1 0) (eq-eqb slot m (sym at)) in
          omega (arith, here, value, more, was, on)
      | inr other ↦
          let value = ap length (value_else slot m (boxes slot ++ l ∷ []) boxes other) in
          let off = ap {B = ℕ} (λ (b : Bool). cond b 1 0) (ne_eqb slot m (λ e. other (sym e))) in
          omega (arith, value, off)
    ]

-- how many of these commands go into this mailbox
abbrev pub letters_for : Rows → ℕ → List Letter → ℕ
letters_for s m letters = sum_by (λ l. cond ((obj s l.to.0).slot == m) 1 0) letters

pub length_all : (m : ℕ) (s : Rows) (ls : List Letter) (boxes : ℕ → List Letter) → length (put_all s ls boxes m) ≡ length (boxes m) + letters_for s m ls
length_all m s [] boxes = omega arith
length_all m s (l ∷ ls) boxes =
    let first = length_put m (obj s l.to.0).slot l boxes in
    let rest = length_all m s ls (with_value (obj s l.to.0).slot (boxes (obj s l.to.0).slot ++ l ∷ []) boxes) in
    let all = sum_by-cons {X = Letter} (λ l. cond ((obj s l.to.0).slot == m) 1 0) l ls in
    omega (arith, first, rest, all)

-- ---- one row: what its event puts was to come
alive_one : (s : Stage) → is_alive s ≡ true → (◌≡◌ {A = ℕ} (cond (is_alive s) 1 0) 1) × (has_ended s ≡ false)
alive_one Alive h = (refl, refl)
alive_one Told h = absurd (never h)
alive_one Ending h = absurd (never h)
alive_one Finished h = absurd (never h)
alive_one Cleared h = absurd (never h)

-- what comes for the object itself, and what it puts for itself
abbrev puts_down : LinkEvent → ℕ
puts_down OwnComes = 0
puts_down PlugComes = 0
puts_down IsTold = 1
puts_down TermComes = 0
puts_down AsksOver = 0
puts_down RequestComes = 0
puts_down ReapComes = 1
puts_down AckComes = 0
puts_down RootAsked = 0
puts_down StopPut = 1
puts_down StopComes = 0
puts_down AsksForLink = 0
puts_down AsksForLinger = 0

-- and for its owner
abbrev puts_up : LinkEvent → ℕ
puts_up OwnComes = 0
puts_up PlugComes = 0
puts_up IsTold = 0
puts_up TermComes = 0
puts_up AsksOver = 1
puts_up RequestComes = 0
puts_up ReapComes = 0
puts_up AckComes = 0
puts_up RootAsked = 0
puts_up StopPut = 0
puts_up StopComes = 0
puts_up AsksForLink = 0
puts_up AsksForLinger = 0

-- a Stop may be put no more
stop_off : (u r k a : Bool) → a ≡ false → ◌≡◌ {A = ℕ} (cond (u && (r && (k && a))) 1 0) 0
stop_off u r k true h = absurd (never (sym h))
stop_off true true true false h = refl
stop_off true true false false h = refl
stop_off true false k false h = refl
stop_off false r k false h = refl

request_off : (u k a : Bool) → ◌≡◌ {A = ℕ} (cond (u && (false && (k && a))) 1 0) 0
request_off true k a = refl
request_off false k a = refl

down_falls : (e : LinkEvent) (o : Row) → link_may e o ≡ true → down_to_come (link_after e o) + puts_down e ≤ down_to_come o
down_falls OwnComes o may_so = omega arith
down_falls PlugComes o may_so = omega arith
down_falls IsTold o may_so = let a = (alive_one o.stage (left _ _ may_so)).0 in let off = stop_off (is_unused o.stop) (is_unused o.request) (is_socket o.kind) false refl in omega (arith, a, off)
down_falls TermComes o may_so = let off = stop_off (is_unused o.stop) (is_unused o.request) (is_socket o.kind) false refl in omega (arith, off)
down_falls AsksOver o may_so = let off = request_off (is_unused o.stop) (is_socket o.kind) (is_alive o.stage) in omega (arith, off)
down_falls RequestComes o may_so = let off = request_off (is_unused o.stop) (is_socket o.kind) (is_alive o.stage) in omega (arith, off)
down_falls ReapComes o may_so = let a = (alive_one o.stage (left _ _ (right (is_coming o.request) _ may_so))).0 in let off = stop_off (is_unused o.stop) false (is_socket o.kind) false refl in omega (arith, a, off)
down_falls AckComes o may_so = let off = stop_off (is_unused o.stop) (is_unused o.request) (is_socket o.kind) false refl in omega (arith, off)
down_falls RootAsked o may_so = let off = stop_off (is_unused o.stop) (is_unused o.request) (is_socket o.kind) false refl in omega (arith, off)
down_falls StopPut o may_so = let on = ap {B = ℕ} (λ (b : Bool). cond b 1 0) may_so in omega (arith, on)
down_falls StopComes o may_so = omega arith
down_falls AsksForLink o may_so = omega arith
down_falls AsksForLinger o may_so = omega arith

-- the same, of a row that has not ended
lives_up : (b : Bool) (n : ℕ) → b ≡ false → cond b 0 n ≡ n
lives_up true n h = absurd (never (sym h))
lives_up false n h = refl

less_up : (b : Bool) (m n : ℕ) → m ≤ n → cond b 0 m ≤ cond b 0 n
less_up true m n h = omega arith
less_up false m n h = h

unended_told : (s : Stage) → is_told s ≡ true → has_ended s ≡ false
unended_told Told h = refl
unended_told Alive h = absurd (never h)
unended_told Ending h = absurd (never h)
unended_told Finished h = absurd (never h)
unended_told Cleared h = absurd (never h)

up_falls : (e : LinkEvent) (o : Row) → link_may e o ≡ true → up_to_come (link_after e o) + puts_up e ≤ up_to_come o
up_falls OwnComes o may_so = omega arith
up_falls PlugComes o may_so = omega arith
up_falls IsTold o may_so = let lives = lives_up (has_ended o.stage) (cond (is_unused o.request) 1 0 + cond (is_unowned o.owner) 0 1) (alive_one o.stage (left _ _ may_so)).1 in omega (arith, lives)
up_falls TermComes o may_so = let lives = lives_up (has_ended o.stage) (cond (is_unused o.request) 1 0 + cond (is_unowned o.owner) 0 1) (unended_told o.stage (left _ _ may_so)) in omega (arith, lives)
up_falls AsksOver o may_so =
    let unused = ap {B = ℕ} (λ (b : Bool). cond b 1 0) (left (is_unused o.request) _ may_so) in
    let lives = is_false (has_ended o.stage) (right (is_unused o.request) _ may_so) in
    let was = lives_up (has_ended o.stage) (cond (is_unused o.request) 1 0 + cond (is_unowned o.owner) 0 1) lives in
    let now = lives_up (has_ended o.stage) (0 + cond (is_unowned o.owner) 0 1) lives in
    omega (arith, unused, was, now)
up_falls RequestComes o may_so = let less = less_up (has_ended o.stage) (0 + cond (is_unowned o.owner) 0 1) (cond (is_unused o.request) 1 0 + cond (is_unowned o.owner) 0 1) (omega arith) in omega (arith, less)
up_falls ReapComes o may_so =
    let lives = (alive_one o.stage (left _ _ (right (is_coming o.request) _ may_so))).1 in
    let was = lives_up (has_ended o.stage) (cond (is_unused o.request) 1 0 + cond (is_unowned o.owner) 0 1) lives in
    omega (arith, was)
up_falls AckComes o may_so = omega arith
up_falls RootAsked o may_so = let lives = lives_up (has_ended o.stage) (cond (is_unused o.request) 1 0 + cond (is_unowned o.owner) 0 1) (alive_one o.stage (left _ _ may_so)).1 in omega (arith, lives)
up_falls StopPut o may_so = omega arith
up_falls StopComes o may_so = omega arith
up_falls AsksForLink o may_so = omega arith
up_falls AsksForLinger o may_so = omega arith

-- ---- by mailbox
pub nothing : (b : Bool) → ◌≡◌ {A = ℕ} (cond b 0 0) 0
nothing true = refl
nothing false = refl

pub cond_le : (b : Bool) (x n y : ℕ) → x + n ≤ y → cond b x 0 + cond b n 0 ≤ cond b y 0
cond_le true x n y h = h
cond_le false x n y h = omega arith

pub one_for : (s : Rows) (m to : ℕ) (word : Word) → letters_for s m (one_letter to word) ≡ cond ((obj s to).slot == m) 1 0
one_for s m to word = omega arith

-- the commands of an object's event, by the mailbox of the object and that of its owner
link_for : (t : Rows) (m i own up : ℕ) (e : LinkEvent) (o : Row) → (obj t i).slot ≡ own → (obj t (owner_or_root o.owner)).slot ≡ up →
    letters_for t m (link_letters e i o) ≡ cond (own == m) (puts_down e) 0 + cond (up == m) (puts_up e) 0
link_for t m i own up e o down_is up_is = by e
  where
    none : ◌≡◌ {A = ℕ} 0 (cond (own == m) 0 0 + cond (up == m) 0 0)
    none = let a = nothing (own == m) in let b = nothing (up == m) in omega (arith, a, b)

    down : (word : Word) → letters_for t m (one_letter i word) ≡ cond (own == m) 1 0 + cond (up == m) 0 0
    down word = let a = ap {B = ℕ} (λ (n : ℕ). cond (n == m) 1 0) down_is in let b = nothing (up == m) in let c = one_for t m i word in omega (arith, a, b, c)

    upward : (word : Word) → letters_for t m (one_letter (owner_or_root o.owner) word) ≡ cond (own == m) 0 0 + cond (up == m) 1 0
    upward word = let a = ap {B = ℕ} (λ (n : ℕ). cond (n == m) 1 0) up_is in let b = nothing (own == m) in let c = one_for t m (owner_or_root o.owner) word in omega (arith, a, b, c)

    by : (e : LinkEvent) → letters_for t m (link_letters e i o) ≡ cond (own == m) (puts_down e) 0 + cond (up == m) (puts_up e) 0
    by OwnComes = none
    by PlugComes = none
    by IsTold = down Term
    by TermComes = none
    by AsksOver = upward (cond (is_socket o.kind) (Reap (id i)) (TermReq (id i)))
    by RequestComes = none
    by ReapComes = down Term
    by AckComes = none
    by RootAsked = none
    by StopPut = down Stop
    by StopComes = none
    by AsksForLink = none
    by AsksForLinger = none

module _ (slot : ℕ → ℕ) (m : ℕ) where
  pub row_room : (t : Rows) (i : ℕ) (e : LinkEvent) (o : Row) → link_may e o ≡ true → (obj t i).slot ≡ o.slot → (obj t (owner_or_root o.owner)).slot ≡ slot (owner_or_root o.owner) →
      row_to_come slot m (link_after e o) + letters_for t m (link_letters e i o) ≤ row_to_come slot m o
  row_room t i e o may_so down_is up_is =
      let letters = link_for t m i o.slot (slot (owner_or_root o.owner)) e o down_is up_is in
      let own = ap (λ (n : ℕ). cond (n == m) (down_to_come (link_after e o)) 0) (same_slot e o) in
      let owner = ap (λ (w : Option ℕ). cond (slot (owner_or_root w) == m) (up_to_come (link_after e o)) 0) (same_owner e o) in
      let down = cond_le (o.slot == m) (down_to_come (link_after e o)) (puts_down e) (down_to_come o) (down_falls e o may_so) in
      let upward = cond_le (slot (owner_or_root o.owner) == m) (up_to_come (link_after e o)) (puts_up e) (up_to_come o) (up_falls e o may_so) in
      omega (arith, letters, own, owner, down, upward)

  -- an object that ends
  pub end_room : (t : Rows) (i : ℕ) (o : Row) → o.stage ≡ Ending → (obj t (owner_or_root o.owner)).slot ≡ slot (owner_or_root o.owner) →
      row_to_come slot m (record o { stage = Finished }) + letters_for t m (ack_letters o.owner i) ≤ row_to_come slot m o
  end_room t i o asked up_is =
      let off = stop_off (is_unused o.stop) (is_unused o.request) (is_socket o.kind) false refl in
      let down_zero : ◌≡◌ {A = ℕ} (down_to_come (record o { stage = Finished })) 0 = omega (arith, off) in
      let zero_down = ap (λ (n : ℕ). cond (o.slot == m) n 0) down_zero in
      let none = nothing (o.slot == m) in
      let zero_up = nothing (slot (owner_or_root o.owner) == m) in
      let lives = ap (λ (s : Stage). cond (has_ended s) 0 (cond (is_unused o.request) 1 0 + cond (is_unowned o.owner) 0 1)) asked in
      let was : ◌≡◌ {A = ℕ} (cond (slot (owner_or_root o.owner) == m) (up_to_come o) 0) (cond (slot (owner_or_root o.owner) == m) (cond (is_unused o.request) 1 0 + cond (is_unowned o.owner) 0 1) 0) = ap (λ (n : ℕ). cond (slot (owner_or_root o.owner) == m) n 0) lives in
      let letters = by o.owner up_is in
      omega (arith, zero_down, none, zero_up, was, letters)
    where
      by : (w : Option ℕ) → (obj t (owner_or_root w)).slot ≡ slot (owner_or_root w) → letters_for t m (ack_letters w i) ≤ cond (slot (owner_or_root w) == m) (cond (is_unused o.request) 1 0 + cond (is_unowned w) 0 1) 0
      by None is = omega arith
      by (Some w) is =
          let one = one_for t m w (TermAck (id i)) in
          let at = ap {B = ℕ} (λ (n : ℕ). cond (n == m) 1 0) is in
          let more = cond_le (slot w == m) 0 1 (cond (is_unused o.request) 1 0 + 1) (omega arith) in
          omega (arith, one, at, more)

-- ---- one pair
abbrev pub puts_end : EndCommands → ℕ
puts_end Nothing = 0
puts_end TermAndSeal = 1
puts_end Ack = 1
puts_end Settle = 0
puts_end SettleAndAck = 1

abbrev pub puts_pair : PairEvent → Place → ℕ
puts_pair Opens place = 0
puts_pair BindCame place = 0
puts_pair (Happens event) place = puts_end (commands_in event place)

end_for : (t : Rows) (m w : ℕ) (cmds : EndCommands) (e : EndId) → letters_for t m (end_letters cmds w e) ≡ cond ((obj t w).slot == m) (puts_end cmds) 0
end_for t m w Nothing e = sym (nothing ((obj t w).slot == m))
end_for t m w TermAndSeal e = one_for t m w (PipeTerm (other_end e))
end_for t m w Ack e = one_for t m w (PipeTermAck (other_end e))
end_for t m w Settle e = sym (nothing ((obj t w).slot == m))
end_for t m w SettleAndAck e = one_for t m w (PipeTermAck (other_end e))

pub pair_for : (t : Rows) (m w : ℕ) (event : PairEvent) (place : Place) (e : EndId) → letters_for t m (pair_letters event place w e) ≡ cond ((obj t w).slot == m) (puts_pair event place) 0
pair_for t m w Opens place e = sym (nothing ((obj t w).slot == m))
pair_for t m w BindCame place e = sym (nothing ((obj t w).slot == m))
pair_for t m w (Happens event) place e = end_for t m w (commands_in event place) e

pub place_falls : (event : EndEvent) (place : Place) → to_put (place_after (Happens event) place) + puts_end (commands_in event place) ≤ to_put place
place_falls event Unmade = omega arith
place_falls event Away = omega arith
place_falls (Asked reason true) (At Active) = omega arith
place_falls (Asked reason true) (At DelimiterGot) = omega arith
place_falls (Asked reason true) (At WaitDelimiter) = omega arith
place_falls (Asked reason true) (At AckSent) = omega arith
place_falls (Asked reason true) (At AskedOnce) = omega arith
place_falls (Asked reason true) (At AskedTwice) = omega arith
place_falls (Asked reason true) (At Gone) = omega arith
place_falls (Asked reason false) (At Active) = omega arith
place_falls (Asked reason false) (At DelimiterGot) = omega arith
place_falls (Asked reason false) (At WaitDelimiter) = omega arith
place_falls (Asked reason false) (At AckSent) = omega arith
place_falls (Asked reason false) (At AskedOnce) = omega arith
place_falls (Asked reason false) (At AskedTwice) = omega arith
place_falls (Asked reason false) (At Gone) = omega arith
place_falls TermCame (At Active) = omega arith
place_falls TermCame (At DelimiterGot) = omega arith
place_falls TermCame (At WaitDelimiter) = omega arith
place_falls TermCame (At AckSent) = omega arith
place_falls TermCame (At AskedOnce) = omega arith
place_falls TermCame (At AskedTwice) = omega arith
place_falls TermCame (At Gone) = omega arith
place_falls DelimiterSeen (At Active) = omega arith
place_falls DelimiterSeen (At DelimiterGot) = omega arith
place_falls DelimiterSeen (At WaitDelimiter) = omega arith
place_falls DelimiterSeen (At AckSent) = omega arith
place_falls DelimiterSeen (At AskedOnce) = omega arith
place_falls DelimiterSeen (At AskedTwice) = omega arith
place_falls DelimiterSeen (At Gone) = omega arith
place_falls AckCame (At Active) = omega arith
place_falls AckCame (At DelimiterGot) = omega arith
place_falls AckCame (At WaitDelimiter) = omega arith
place_falls AckCame (At AckSent) = omega arith
place_falls AckCame (At AskedOnce) = omega arith
place_falls AckCame (At AskedTwice) = omega arith
place_falls AckCame (At Gone) = omega arith

unmade_two : (place : Place) → is_unmade place ≡ true → to_put place ≡ 2
unmade_two Unmade h = refl
unmade_two Away h = absurd (never h)
unmade_two (At state) h = absurd (never h)

-- of the end that moves, and of the other
mine_room : (e : PairEvent) (a : Bool) (p : PairRow) → may e (end_half p a) (end_half p (not a)) ≡ true → to_put (place_after e (end_place p a)) + puts_pair e (end_place p a) ≤ to_put (end_place p a)
mine_room Opens a p comes = let two = unmade_two (end_place p a) (left _ _ comes) in omega (arith, two)
mine_room BindCame a p comes = let two = ap to_put (binds_away (end_place p a) (end_place p (not a)) comes) in omega (arith, two)
mine_room (Happens event) a p comes = place_falls event (end_place p a)

theirs_room : (e : PairEvent) (a : Bool) (p : PairRow) → may e (end_half p a) (end_half p (not a)) ≡ true → to_put (other_after e (end_place p (not a))) ≤ to_put (end_place p (not a))
theirs_room Opens a p comes = let two = unmade_two (end_place p (not a)) (right (is_unmade (end_place p a)) _ comes) in omega (arith, two)
theirs_room BindCame a p comes = omega arith
theirs_room (Happens event) a p comes = omega arith

pub pair_room : (slot : ℕ → ℕ) (m : ℕ) (e : PairEvent) (a : Bool) (p : PairRow) → may e (end_half p a) (end_half p (not a)) ≡ true →
    pair_to_come slot m (pair_after e a p) + cond (slot (end_owner p (not a)) == m) (puts_pair e (end_place p a)) 0 ≤ pair_to_come slot m p
pair_room slot m e true p comes =
    let mine = cond_le (slot p.b_owner == m) (to_put (place_after e p.a)) (puts_pair e p.a) (to_put p.a) (mine_room e true p comes) in
    let same = nothing (slot p.a_owner == m) in
    let theirs = theirs_room e true p comes in
    let all = cond_le (slot p.a_owner == m) (to_put (other_after e p.b)) 0 (to_put p.b) (omega (arith, theirs)) in
    omega (arith, mine, same, all)
pair_room slot m e false p comes =
    let mine = cond_le (slot p.a_owner == m) (to_put (place_after e p.b)) (puts_pair e p.b) (to_put p.b) (mine_room e false p comes) in
    let same = nothing (slot p.b_owner == m) in
    let theirs = theirs_room e false p comes in
    let all = cond_le (slot p.b_owner == m) (to_put (other_after e p.a)) 0 (to_put p.a) (omega (arith, theirs)) in
    omega (arith, mine, same, all)
