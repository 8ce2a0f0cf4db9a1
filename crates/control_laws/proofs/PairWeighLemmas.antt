-- A weight of a pair: of what is on its way to an end, and of where the other end is.
use Rattle.std.specs.Prelude.{◌≡◌, ◌≤◌, ◌+◌, ℕ, Bool, true, false, not, List, [], ◌∷◌, sum_by, refl}
use Rattle.std.proofs.Common.{arith, ap}
use Rattle.std.proofs.lemmas.List.Sums.{sum_by-cons, sum_by-append}
use Rattle.spec_control.specs.declared.end.EndEvent.TheVariants.{Asked, TermCame, DelimiterSeen, AckCame}
use Rattle.spec_control.specs.Place.{Place, EndWord, Binds, Terms, Acks, Half, waiting, Away, At, Unmade}
use Rattle.spec_control.specs.PairPhase.{PairEvent, Opens, BindCame, Happens, may, front_is_bind, front_is_term, front_is_ack, behind_first, mail_after, words_at, place_after, other_after}
use Rattle.spec_control.specs.Rows.{PairRow, end_place, end_half, pair_after, IsInPhase, PairMoves}
use Rattle.control_laws.proofs.ListLemmas.{never}
use Rattle.control_laws.proofs.StepLemmas.{moves_after}
use Rattle.spec_control.specs.declared.end.EndState.TheVariants.{Active, DelimiterGot, WaitDelimiter, AckSent, AskedOnce, AskedTwice, Gone}

-- what the event takes from the end's mail, by the weight of each word
abbrev pub word_toll : (EndWord → ℕ) → PairEvent → ℕ
word_toll g Opens = 0
word_toll g BindCame = g Binds
word_toll g (Happens (Asked reason delay)) = 0
word_toll g (Happens TermCame) = g Terms
word_toll g (Happens DelimiterSeen) = 0
word_toll g (Happens AckCame) = g Acks

bind_first : (g : EndWord → ℕ) (ws : List EndWord) → front_is_bind ws ≡ true → sum_by g (behind_first ws) + g Binds ≡ sum_by g ws
bind_first g [] h = absurd (never h)
bind_first g (Binds ∷ ws) h = let a = sum_by-cons g Binds ws in omega (arith, a)
bind_first g (Terms ∷ ws) h = absurd (never h)
bind_first g (Acks ∷ ws) h = absurd (never h)

term_first : (g : EndWord → ℕ) (ws : List EndWord) → front_is_term ws ≡ true → sum_by g (behind_first ws) + g Terms ≡ sum_by g ws
term_first g [] h = absurd (never h)
term_first g (Binds ∷ ws) h = absurd (never h)
term_first g (Terms ∷ ws) h = let a = sum_by-cons g Terms ws in omega (arith, a)
term_first g (Acks ∷ ws) h = absurd (never h)

ack_first : (g : EndWord → ℕ) (ws : List EndWord) → front_is_ack ws ≡ true → sum_by g (behind_first ws) + g Acks ≡ sum_by g ws
ack_first g [] h = absurd (never h)
ack_first g (Binds ∷ ws) h = absurd (never h)
ack_first g (Terms ∷ ws) h = absurd (never h)
ack_first g (Acks ∷ ws) h = let a = sum_by-cons g Acks ws in omega (arith, a)

mail_taken : (g : EndWord → ℕ) (e : PairEvent) (mine theirs : Half) → may e mine theirs ≡ true → sum_by g (mail_after e mine.mail) + word_toll g e ≡ sum_by g mine.mail
mail_taken g Opens mine theirs h = omega arith
mail_taken g BindCame mine theirs h = bind_first g mine.mail h
mail_taken g (Happens (Asked reason delay)) mine theirs h = omega arith
mail_taken g (Happens TermCame) mine theirs h = term_first g mine.mail h
mail_taken g (Happens DelimiterSeen) mine theirs h = omega arith
mail_taken g (Happens AckCame) mine theirs h = ack_first g mine.mail h

-- where a pair is made
abbrev pub made_toll : ℕ → PairEvent → ℕ
made_toll n Opens = n
made_toll n BindCame = 0
made_toll n (Happens event) = 0

-- what an end may still put falls by what it puts, and where a pair is made by so much more
pub record FallsBy (g : EndWord → ℕ) (h : Place → ℕ) (n : ℕ) : Type 0 where
  pub mine : (e : PairEvent) (x y : Place) (ws : List EndWord) → may e (record { place = x; mail = waiting x y }) (record { place = y; mail = ws }) ≡ true → sum_by g (words_at e x) + h (place_after e x) ≤ h x
  pub theirs : (e : PairEvent) (x y : Place) (ws : List EndWord) → may e (record { place = x; mail = waiting x y }) (record { place = y; mail = ws }) ≡ true → h (other_after e y) + made_toll n e ≤ h y

-- the weight of what may come to an end
abbrev pub end_weight : (EndWord → ℕ) → (Place → ℕ) → PairRow → Bool → ℕ
end_weight g h p x = sum_by g (end_half p x).mail + h (end_place p (not x))

back : (a : Bool) → not (not a) ≡ a
back true = refl
back false = refl

module _ (g : EndWord → ℕ) (h : Place → ℕ) (n : ℕ) (falls : FallsBy g h n) (e : PairEvent) (a : Bool) (p : PairRow) (phase : IsInPhase p) (comes : may e (end_half p a) (end_half p (not a)) ≡ true) where
  m : PairMoves e a p (pair_after e a p)
  m = moves_after e a p phase comes

  -- of the end that moves
  pub mine_falls : end_weight g h (pair_after e a p) a + (word_toll g e + made_toll n e) ≤ end_weight g h p a
  mine_falls =
      let mail = ap (λ (x : Half). sum_by g x.mail) m.mine in
      let place = ap (λ (x : Half). h x.place) m.theirs in
      let less = falls.theirs e (end_place p a) (end_place p (not a)) (end_half p (not a)).mail comes in
      let took = mail_taken g e (end_half p a) (end_half p (not a)) comes in
      omega (arith, mail, place, less, took)

  -- of the other
  pub theirs_fall : end_weight g h (pair_after e a p) (not a) ≤ end_weight g h p (not a)
  theirs_fall =
      let mail = ap (λ (x : Half). sum_by g x.mail) m.theirs in
      let more = sum_by-append g (end_half p (not a)).mail (words_at e (end_place p a)) in
      let new = ap (λ (x : Bool). h (end_place (pair_after e a p) x)) (back a) in
      let place = ap (λ (x : Half). h x.place) m.mine in
      let old = ap (λ (x : Bool). h (end_place p x)) (back a) in
      let less = falls.mine e (end_place p a) (end_place p (not a)) (end_half p (not a)).mail comes in
      omega (arith, mail, more, new, place, old, less)

-- a bind comes to an end that is away alone, and a pair is made of two that are not made
pub binds_away : (mine theirs : Place) → front_is_bind (waiting mine theirs) ≡ true → mine ≡ Away
binds_away Unmade theirs h = absurd (never h)
binds_away Away theirs h = refl
binds_away (At Active) (At AskedOnce) h = absurd (never h)
binds_away (At Active) Unmade h = absurd (never h)
binds_away (At Active) Away h = absurd (never h)
binds_away (At Active) (At Active) h = absurd (never h)
binds_away (At Active) (At DelimiterGot) h = absurd (never h)
binds_away (At Active) (At WaitDelimiter) h = absurd (never h)
binds_away (At Active) (At AckSent) h = absurd (never h)
binds_away (At Active) (At AskedTwice) h = absurd (never h)
binds_away (At Active) (At Gone) h = absurd (never h)
binds_away (At DelimiterGot) (At AskedOnce) h = absurd (never h)
binds_away (At DelimiterGot) Unmade h = absurd (never h)
binds_away (At DelimiterGot) Away h = absurd (never h)
binds_away (At DelimiterGot) (At Active) h = absurd (never h)
binds_away (At DelimiterGot) (At DelimiterGot) h = absurd (never h)
binds_away (At DelimiterGot) (At WaitDelimiter) h = absurd (never h)
binds_away (At DelimiterGot) (At AckSent) h = absurd (never h)
binds_away (At DelimiterGot) (At AskedTwice) h = absurd (never h)
binds_away (At DelimiterGot) (At Gone) h = absurd (never h)
binds_away (At WaitDelimiter) theirs h = absurd (never h)
binds_away (At AckSent) Unmade h = absurd (never h)
binds_away (At AckSent) Away h = absurd (never h)
binds_away (At AckSent) (At Active) h = absurd (never h)
binds_away (At AckSent) (At DelimiterGot) h = absurd (never h)
binds_away (At AckSent) (At WaitDelimiter) h = absurd (never h)
binds_away (At AckSent) (At AckSent) h = absurd (never h)
binds_away (At AckSent) (At AskedOnce) h = absurd (never h)
binds_away (At AckSent) (At AskedTwice) h = absurd (never h)
binds_away (At AckSent) (At Gone) h = absurd (never h)
binds_away (At AskedOnce) Unmade h = absurd (never h)
binds_away (At AskedOnce) Away h = absurd (never h)
binds_away (At AskedOnce) (At Active) h = absurd (never h)
binds_away (At AskedOnce) (At DelimiterGot) h = absurd (never h)
binds_away (At AskedOnce) (At WaitDelimiter) h = absurd (never h)
binds_away (At AskedOnce) (At AckSent) h = absurd (never h)
binds_away (At AskedOnce) (At AskedOnce) h = absurd (never h)
binds_away (At AskedOnce) (At AskedTwice) h = absurd (never h)
binds_away (At AskedOnce) (At Gone) h = absurd (never h)
binds_away (At AskedTwice) Unmade h = absurd (never h)
binds_away (At AskedTwice) Away h = absurd (never h)
binds_away (At AskedTwice) (At Active) h = absurd (never h)
binds_away (At AskedTwice) (At DelimiterGot) h = absurd (never h)
binds_away (At AskedTwice) (At WaitDelimiter) h = absurd (never h)
binds_away (At AskedTwice) (At AckSent) h = absurd (never h)
binds_away (At AskedTwice) (At AskedOnce) h = absurd (never h)
binds_away (At AskedTwice) (At AskedTwice) h = absurd (never h)
binds_away (At AskedTwice) (At Gone) h = absurd (never h)
binds_away (At Gone) theirs h = absurd (never h)
