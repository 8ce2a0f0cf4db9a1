-- What the oldest command of a link says of the link's row, and what is behind it.
use Rattle.std.specs.Prelude.{◌≡◌, ℕ, Bool, true, false, not, List, [], ◌∷◌, map, refl}
use Rattle.std.proofs.Common.{arith, ap}
use Rattle.spec_control.specs.Place.{EndWord, Binds, Terms, Acks}
use Rattle.spec_control.specs.PairPhase.{behind_first, front_is_bind, front_is_term, front_is_ack}
use Rattle.spec_control.specs.Row.{GivesOwn, Requests, GivesAck, GetsPlug, GetsStop, GetsTerm, first_if}
use Rattle.control_laws.specs.Mail.{OwnSign, RequestSign, ReapSign, AckSign, PlugSign, StopSign, TermSign, BindSign, PipeTermSign, PipeAckSign, Mark, up_mark, down_mark, end_mark}

abbrev pub up_list : (socket : Bool) → ℕ → (noted coming acks : Bool) → List Mark
up_list k w n c g = map (up_mark k w) (first_if (not n) GivesOwn (first_if c Requests (first_if g GivesAck [])))

abbrev pub down_list : ℕ → (plugged stopping told : Bool) → List Mark
down_list c p t d = map (down_mark c) (first_if (not p) GetsPlug (first_if t GetsStop (first_if d GetsTerm [])))

abbrev first_or : Mark → List Mark → Mark
first_or d [] = d
first_or d (x ∷ xs) = x

to_is : {x y : Mark} {xs ys : List Mark} → x ∷ xs ≡ y ∷ ys → x.to ≡ y.to
to_is {x} h = ap (λ (l : List Mark). (first_or x l).to) h

sign_is : {x y : Mark} {xs ys : List Mark} → x ∷ xs ≡ y ∷ ys → x.sign ≡ y.sign
sign_is {x} h = ap (λ (l : List Mark). (first_or x l).sign) h

rest_is : {x y : Mark} {xs ys : List Mark} → x ∷ xs ≡ y ∷ ys → xs ≡ ys
rest_is h = ap behind_first h

nothing_first : {x : Mark} {xs : List Mark} → [] ≡ x ∷ xs → ⊥
nothing_first h = Prim.grind arith

pub own_front : (k : Bool) (w : ℕ) (n c g : Bool) (to : ℕ) (q : List Mark) → up_list k w n c g ≡ record { to = to; sign = OwnSign } ∷ q →
    (n ≡ false) × (w ≡ to) × (up_list k w true c g ≡ q)
own_front k w false c g to q h = (refl, to_is h, rest_is h)
own_front true w true true g to q h = absurd (clash (sign_is h))
  where
    clash : ReapSign ≡ OwnSign → ⊥
    clash e = Prim.grind arith
own_front false w true true g to q h = absurd (clash (sign_is h))
  where
    clash : RequestSign ≡ OwnSign → ⊥
    clash e = Prim.grind arith
own_front k w true false true to q h = absurd (clash (sign_is h))
  where
    clash : AckSign ≡ OwnSign → ⊥
    clash e = Prim.grind arith
own_front k w true false false to q h = absurd (nothing_first h)

pub request_front : (k : Bool) (w : ℕ) (n c g : Bool) (to : ℕ) (q : List Mark) → up_list k w n c g ≡ record { to = to; sign = RequestSign } ∷ q →
    (n ≡ true) × (c ≡ true) × (k ≡ false) × (w ≡ to) × (up_list k w n false g ≡ q)
request_front k w false c g to q h = absurd (clash (sign_is h))
  where
    clash : OwnSign ≡ RequestSign → ⊥
    clash e = Prim.grind arith
request_front true w true true g to q h = absurd (clash (sign_is h))
  where
    clash : ReapSign ≡ RequestSign → ⊥
    clash e = Prim.grind arith
request_front false w true true g to q h = (refl, refl, refl, to_is h, rest_is h)
request_front k w true false true to q h = absurd (clash (sign_is h))
  where
    clash : AckSign ≡ RequestSign → ⊥
    clash e = Prim.grind arith
request_front k w true false false to q h = absurd (nothing_first h)

pub reap_front : (k : Bool) (w : ℕ) (n c g : Bool) (to : ℕ) (q : List Mark) → up_list k w n c g ≡ record { to = to; sign = ReapSign } ∷ q →
    (n ≡ true) × (c ≡ true) × (k ≡ true) × (w ≡ to) × (up_list k w n false g ≡ q)
reap_front k w false c g to q h = absurd (clash (sign_is h))
  where
    clash : OwnSign ≡ ReapSign → ⊥
    clash e = Prim.grind arith
reap_front true w true true g to q h = (refl, refl, refl, to_is h, rest_is h)
reap_front false w true true g to q h = absurd (clash (sign_is h))
  where
    clash : RequestSign ≡ ReapSign → ⊥
    clash e = Prim.grind arith
reap_front k w true false true to q h = absurd (clash (sign_is h))
  where
    clash : AckSign ≡ ReapSign → ⊥
    clash e = Prim.grind arith
reap_front k w true false false to q h = absurd (nothing_first h)

pub ack_front : (k : Bool) (w : ℕ) (n c g : Bool) (to : ℕ) (q : List Mark) → up_list k w n c g ≡ record { to = to; sign = AckSign } ∷ q →
    (n ≡ true) × (c ≡ false) × (g ≡ true) × (w ≡ to) × (up_list k w n c false ≡ q)
ack_front k w false c g to q h = absurd (clash (sign_is h))
  where
    clash : OwnSign ≡ AckSign → ⊥
    clash e = Prim.grind arith
ack_front true w true true g to q h = absurd (clash (sign_is h))
  where
    clash : ReapSign ≡ AckSign → ⊥
    clash e = Prim.grind arith
ack_front false w true true g to q h = absurd (clash (sign_is h))
  where
    clash : RequestSign ≡ AckSign → ⊥
    clash e = Prim.grind arith
ack_front k w true false true to q h = (refl, refl, refl, to_is h, rest_is h)
ack_front k w true false false to q h = absurd (nothing_first h)

pub plug_front : (c : ℕ) (p t d : Bool) (to : ℕ) (q : List Mark) → down_list c p t d ≡ record { to = to; sign = PlugSign } ∷ q → (p ≡ false) × (down_list c true t d ≡ q)
plug_front c false t d to q h = (refl, rest_is h)
plug_front c true true d to q h = absurd (clash (sign_is h))
  where
    clash : StopSign ≡ PlugSign → ⊥
    clash e = Prim.grind arith
plug_front c true false true to q h = absurd (clash (sign_is h))
  where
    clash : TermSign ≡ PlugSign → ⊥
    clash e = Prim.grind arith
plug_front c true false false to q h = absurd (nothing_first h)

pub stop_front : (c : ℕ) (p t d : Bool) (to : ℕ) (q : List Mark) → down_list c p t d ≡ record { to = to; sign = StopSign } ∷ q → (p ≡ true) × (t ≡ true) × (down_list c p false d ≡ q)
stop_front c false t d to q h = absurd (clash (sign_is h))
  where
    clash : PlugSign ≡ StopSign → ⊥
    clash e = Prim.grind arith
stop_front c true true d to q h = (refl, refl, rest_is h)
stop_front c true false true to q h = absurd (clash (sign_is h))
  where
    clash : TermSign ≡ StopSign → ⊥
    clash e = Prim.grind arith
stop_front c true false false to q h = absurd (nothing_first h)

pub term_front : (c : ℕ) (p t d : Bool) (to : ℕ) (q : List Mark) → down_list c p t d ≡ record { to = to; sign = TermSign } ∷ q → (p ≡ true) × (t ≡ false) × (d ≡ true) × (down_list c p t false ≡ q)
term_front c false t d to q h = absurd (clash (sign_is h))
  where
    clash : PlugSign ≡ TermSign → ⊥
    clash e = Prim.grind arith
term_front c true true d to q h = absurd (clash (sign_is h))
  where
    clash : StopSign ≡ TermSign → ⊥
    clash e = Prim.grind arith
term_front c true false true to q h = (refl, refl, refl, rest_is h)
term_front c true false false to q h = absurd (nothing_first h)

pub bind_front : (w : ℕ) (ws : List EndWord) (to : ℕ) (q : List Mark) → map (end_mark w) ws ≡ record { to = to; sign = BindSign } ∷ q →
    (front_is_bind ws ≡ true) × (w ≡ to) × (map (end_mark w) (behind_first ws) ≡ q)
bind_front w [] to q h = absurd (nothing_first h)
bind_front w (Binds ∷ ws) to q h = (refl, to_is h, rest_is h)
bind_front w (Terms ∷ ws) to q h = absurd (clash (sign_is h))
  where
    clash : PipeTermSign ≡ BindSign → ⊥
    clash e = Prim.grind arith
bind_front w (Acks ∷ ws) to q h = absurd (clash (sign_is h))
  where
    clash : PipeAckSign ≡ BindSign → ⊥
    clash e = Prim.grind arith

pub pipe_term_front : (w : ℕ) (ws : List EndWord) (to : ℕ) (q : List Mark) → map (end_mark w) ws ≡ record { to = to; sign = PipeTermSign } ∷ q →
    (front_is_term ws ≡ true) × (w ≡ to) × (map (end_mark w) (behind_first ws) ≡ q)
pipe_term_front w [] to q h = absurd (nothing_first h)
pipe_term_front w (Terms ∷ ws) to q h = (refl, to_is h, rest_is h)
pipe_term_front w (Binds ∷ ws) to q h = absurd (clash (sign_is h))
  where
    clash : BindSign ≡ PipeTermSign → ⊥
    clash e = Prim.grind arith
pipe_term_front w (Acks ∷ ws) to q h = absurd (clash (sign_is h))
  where
    clash : PipeAckSign ≡ PipeTermSign → ⊥
    clash e = Prim.grind arith

pub pipe_ack_front : (w : ℕ) (ws : List EndWord) (to : ℕ) (q : List Mark) → map (end_mark w) ws ≡ record { to = to; sign = PipeAckSign } ∷ q →
    (front_is_ack ws ≡ true) × (w ≡ to) × (map (end_mark w) (behind_first ws) ≡ q)
pipe_ack_front w [] to q h = absurd (nothing_first h)
pipe_ack_front w (Acks ∷ ws) to q h = (refl, to_is h, rest_is h)
pipe_ack_front w (Binds ∷ ws) to q h = absurd (clash (sign_is h))
  where
    clash : BindSign ≡ PipeAckSign → ⊥
    clash e = Prim.grind arith
pipe_ack_front w (Terms ∷ ws) to q h = absurd (clash (sign_is h))
  where
    clash : PipeTermSign ≡ PipeAckSign → ⊥
    clash e = Prim.grind arith
