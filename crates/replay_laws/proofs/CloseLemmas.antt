-- What the acts of a worker close: an actor's, at the most one of its open sockets.
use Rattle.std.specs.Prelude.{◌≡◌, ◌||◌, ℕ, Bool, true, false, List, [], ◌∷◌, ◌++◌, flat_map, map, refl}
use Rattle.std.proofs.Common.{ap, ◌∙◌}
use Rattle.zq_base.specs.declared.ids.EndId.{EndId}
use Rattle.spec_pattern.specs.PipeStep.{PipeStep, Seal}
use Rattle.spec_control.specs.declared.letter.Word.{Word}
use Rattle.spec_control.specs.declared.letter.Word.TheVariants.{Own, Plug, TermReq, Term, TermAck, PipeBind, PipeTerm, PipeTermAck, Stop, Reap}
use Rattle.spec_control.specs.declared.request.Req.{Req}
use Rattle.spec_control.specs.declared.request.Reply.{Reply}
use Rattle.spec_control.specs.declared.entry.Did.{Did}
use Rattle.spec_control.specs.declared.entry.Did.TheVariants.{Asked, Delivered, Delimited}
use Rattle.spec_control.specs.declared.entry.Item.{Item}
use Rattle.spec_control.specs.declared.entry.Item.TheVariants.{Event, Seen}
use Rattle.spec_control.specs.Control.{Control}
use Rattle.spec_control.specs.Moments.{Moment, left_by}
use Rattle.control_laws.proofs.HeldEventLemmas.{closes}
use Rattle.spec_run.specs.Act.{Act, Step, Said}
use Rattle.spec_run.specs.Event.{IsRequest, LooksFront, finds_none, finds_one, finds_end, LooksFronts, LooksWhere, LooksBehind, TakesLetter, TakesLetters, seals_in, acts_said}
use Rattle.spec_run.specs.OpenSocket.{OpenSock, waiting_ends}
use Rattle.spec_run.specs.Pump.{EndsTaking, took_all, found_empty, Pumps}
use Rattle.spec_run.specs.Worker.{AsksTheRoot}

or_none : (a b : Bool) → a ≡ false → b ≡ false → (a || b) ≡ false
or_none true b e f = e
or_none false b e f = f

module _ {N S : Type 0} where
  -- an item closes this object
  abbrev pub closes_in : ℕ → Did N S → Bool
  closes_in i (Asked req reply h) = closes i req
  closes_in i (Delivered slot letter h) = false
  closes_in i (Delimited e h) = false

  abbrev pub closes_item : ℕ → Item N S → Bool
  closes_item i (Event entry) = closes_in i entry.did
  closes_item i (Seen sight) = false

  -- one of these acts does
  abbrev pub closed_by : ℕ → List (Act N S) → Bool
  closed_by i [] = false
  closed_by i (Step s ∷ acts) = closed_by i acts
  closed_by i (Said m ∷ acts) = closes_item i m.item || closed_by i acts

  -- acts that close nothing
  abbrev pub Spares : List (Act N S) → Type 0
  Spares acts = (i : ℕ) → closed_by i acts ≡ false

  closed_on : (i : ℕ) (xs ys : List (Act N S)) → closed_by i (xs ++ ys) ≡ (closed_by i xs || closed_by i ys)
  closed_on i [] ys = refl
  closed_on i (Step s ∷ xs) ys = closed_on i xs ys
  closed_on i (Said m ∷ xs) ys = ap (λ (b : Bool). closes_item i m.item || b) (closed_on i xs ys) ∙ grouped (closes_item i m.item)
    where
      grouped : (a : Bool) → (a || (closed_by i xs || closed_by i ys)) ≡ ((a || closed_by i xs) || closed_by i ys)
      grouped true = refl
      grouped false = refl

  pub spares_both : (xs ys : List (Act N S)) → Spares xs → Spares ys → Spares (xs ++ ys)
  spares_both xs ys f g i = closed_on i xs ys ∙ or_none (closed_by i xs) (closed_by i ys) (f i) (g i)

  pub spares_none : (acts : List (Act N S)) → acts ≡ [] → Spares acts
  spares_none acts e i = ap (closed_by i) e

module _ (N S : Type 0) where
  seals_spare : (es : List EndId) → Spares (map (λ e. let a : Act N S = Step (Seal e) in a) es)
  seals_spare [] i = refl
  seals_spare (e ∷ es) i = seals_spare es i

  pub steps_spare : (steps : List PipeStep) → Spares (map (λ step. let a : Act N S = Step step in a) steps)
  steps_spare [] i = refl
  steps_spare (s ∷ steps) i = steps_spare steps i

module _ {N S : Type 0} where
  -- an item with the delimiters behind it closes what the item does
  pub said_closes : (i : ℕ) (m : Moment N S) (item : Item N S) → m.item ≡ item → closed_by i (acts_said m) ≡ closes_item i item
  said_closes i m item is = ap (λ (b : Bool). closes_item i m.item || b) (seals_spare N S (seals_in m) i) ∙ plain (closes_item i m.item) ∙ ap (closes_item i) is
    where
      plain : (b : Bool) → (b || false) ≡ b
      plain true = refl
      plain false = refl

  pub request_closes : (i : ℕ) (req : Req) (reply : Reply) (m : Moment N S) → IsRequest req reply m → closed_by i (acts_said m) ≡ closes i req
  request_closes i req reply m is = said_closes i m (Event (record { by = is.by; did = Asked req reply is.answered })) is.item_is

  pub asking_spares : (acts : List (Act N S)) → AsksTheRoot acts → Spares acts
  asking_spares acts asks i = ap (closed_by i) asks.acts_are ∙ request_closes i _ asks.reply asks.asked asks.request

  -- ---- what a pump does closes nothing
  front_spares : (e : EndId) (acts : List (Act N S)) → LooksFront e acts → Spares acts
  front_spares e acts (finds_none f) i = ap (closed_by i) f
  front_spares e acts (finds_one f) i = ap (closed_by i) f
  front_spares e acts (finds_end m said f) i = ap (closed_by i) f ∙ said_closes i m (Event (record { by = said.by; did = Delimited e said.answered })) said.item_is

  fronts_spare : (es : List EndId) (acts : List (Act N S)) → LooksFronts es acts → Spares acts
  fronts_spare [] acts f i = spares_none acts f i
  fronts_spare (e ∷ es) acts (a, b, f, fs, is) i = ap (closed_by i) is ∙ spares_both a b (front_spares e a f) (fronts_spare es b fs) i

  where_spares : (b : Bool) (e : EndId) (acts : List (Act N S)) → LooksWhere b e acts → Spares acts
  where_spares true e acts f = front_spares e acts f
  where_spares false e acts f = spares_none acts f

  behind_spares : (c : Control) (word : Word) (acts : List (Act N S)) → LooksBehind c word acts → Spares acts
  behind_spares c (PipeTerm e) acts f = where_spares _ e acts f
  behind_spares c (Own child) acts f = spares_none acts f
  behind_spares c (Plug end) acts f = spares_none acts f
  behind_spares c (TermReq child) acts f = spares_none acts f
  behind_spares c Term acts f = spares_none acts f
  behind_spares c (TermAck child) acts f = spares_none acts f
  behind_spares c (PipeBind e peer) acts f = spares_none acts f
  behind_spares c (PipeTermAck e) acts f = spares_none acts f
  behind_spares c Stop acts f = spares_none acts f
  behind_spares c (Reap socket) acts f = spares_none acts f

  pub letter_spares : (slot : ℕ) (acts : List (Act N S)) → TakesLetter slot acts → Spares acts
  letter_spares slot acts t i =
      ap (closed_by i) t.acts_are
      ∙ spares_both (acts_said t.taken) t.looks
      (λ k. said_closes k t.taken (Event (record { by = t.delivery.by; did = Delivered (record { 0 = slot }) t.letter t.delivery.answered })) t.delivery.item_is)
      (behind_spares (left_by t.taken) t.letter.word t.looks t.behind) i

  letters_spare : (slot : ℕ) (ls : List (List (Act N S))) → TakesLetters slot ls → Spares (flat_map (λ x. x) ls)
  letters_spare slot [] t i = refl
  letters_spare slot (x ∷ ls) t i = spares_both x (flat_map (λ y. y) ls) (letter_spares slot x t.0) (letters_spare slot ls t.1) i

  last_spares : (slot k : ℕ) (acts : List (Act N S)) → EndsTaking slot k acts → Spares acts
  last_spares slot k acts (took_all all none) i = spares_none acts none i
  last_spares slot k acts (found_empty m few look is) i = ap (closed_by i) is ∙ ap (λ (item : Item N S). closes_item i item || false) look.item_is

  pub pump_spares : (s u : OpenSock) (acts : List (Act N S)) → Pumps s acts u → Spares acts
  pump_spares s u acts f i =
      let letters = flat_map (λ x. x) f.letters in
      let steps : List (Act N S) = map (λ step. Step step) f.steps in
      ap (closed_by i) f.acts_are
      ∙ spares_both (letters ++ f.last) (steps ++ f.looks)
      (spares_both letters f.last (letters_spare s.slot f.letters f.takes) (last_spares s.slot _ f.last f.ends))
      (spares_both steps f.looks (steps_spare N S f.steps) (fronts_spare (waiting_ends f.heard) f.looks f.looks_are)) i
