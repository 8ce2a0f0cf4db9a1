-- The steps of a socket, one behind another.
use Rattle.std.proofs.Common.{◌≡◌, ◌<◌, ◌+◌, ℕ, Bool, true, false, List, [], ◌∷◌, ◌++◌, length, length-append, Option, Some, refl, sym, ap, subst, ◌∙◌, arith, append-nil, append_assoc}
use Rattle.std.specs.Prelude.{flat_map}
use Rattle.std.proofs.lemmas.Grind.{flat_map-append}
use Rattle.std.proofs.lemmas.List.Elements.{filter_map-append}
use Rattle.zq_base.specs.declared.ids.EndId.{EndId}
use Rattle.spec_pattern.specs.PipeStep.{PipeStep, WaitingLook, EmptyLook, DelimiterLook, read_through}
use Rattle.spec_control.specs.declared.letter.Word.{Word}
use Rattle.spec_control.specs.declared.letter.Word.TheVariants.{PipeTerm}
use Rattle.spec_control.specs.declared.entry.SeenEmpty.TheVariants.{Mailbox}
use Rattle.spec_control.specs.Control.{Control, place_of}
use Rattle.spec_control.specs.Moments.{Moment, left_by}
use Rattle.msg_pipe.specs.declared.pipes.Front.TheVariants.{Message, Empty, Delimiter}
use Rattle.spec_run.specs.Act.{Act, Step, Said, moment_of, moments_in}
use Rattle.spec_run.specs.OpenSocket.{OpenSock, awaits_delimiter, waiting_ends, PassesItems, sock_after}
use Rattle.spec_run.specs.Event.{IsLookAt, LooksFront, LooksFronts, LooksBehind, LooksWhere, TakesLetter, TakesLetters, acts_said, finds_none, finds_one, finds_end}
use Rattle.spec_run.specs.Pump.{took_all, found_empty, most_letters}
use Rattle.spec_run.specs.SocketCall.{step_acts}
use Rattle.line_calls.specs.declared.found.Found.{Found}
use Rattle.line_calls.specs.declared.found.Found.TheVariants.{Letter as TookLetter}
use Rattle.line_calls.specs.declared.found.Reader.{Reader}
use Rattle.line_calls.specs.Steps.{LeadsSome, Passes, Takes, TakesOldest, FindsEmpty, LooksAtFront, MeetsEnd, PumpsKind}
use Rattle.line_calls.specs.Lines.{LooksOne, LooksAll, TakesOne, TakesAll, PumpsSo}

module _ {N S : Type 0} where
  -- items and then others
  pub items_more : (ms ns : List (Moment N S)) (o p q : OpenSock) → PassesItems ms o p → PassesItems ns p q → PassesItems (ms ++ ns) o q
  items_more [] ns o p q first then = subst (λ (x : OpenSock). PassesItems ns x q) first then
  items_more (m ∷ ms) ns o p q first then = (first.0, items_more ms ns (sock_after m o) p q first.1 then)

  -- a socket keeps its mailbox
  pub slot_stays : (ms : List (Moment N S)) (o p : OpenSock) → PassesItems ms o p → p.slot ≡ o.slot
  slot_stays [] o p goes = ap (λ (s : OpenSock). s.slot) goes
  slot_stays (m ∷ ms) o p goes = slot_stays ms (sock_after m o) p goes.1

  pub moments_more : (xs ys : List (Act N S)) → moments_in (xs ++ ys) ≡ moments_in xs ++ moments_in ys
  moments_more xs ys = filter_map-append moment_of xs ys

  -- of steps none is an item
  pub no_moments : (steps : List PipeStep) → moments_in {N = N} {S = S} (step_acts steps) ≡ []
  no_moments [] = refl
  no_moments (step ∷ steps) = no_moments steps

  -- so many moments are among acts that begin with an item
  some_said : (m : Moment N S) (xs acts : List (Act N S)) → acts ≡ Said m ∷ xs → 0 < length (moments_in acts)
  some_said m xs acts e = subst (λ (l : List (Act N S)). 0 < length (moments_in l)) (sym e) (omega arith)

  some_before : (xs ys : List (Act N S)) → 0 < length (moments_in xs) → 0 < length (moments_in (xs ++ ys))
  some_before xs ys some = let e = ap length (moments_more xs ys) in let a = length-append (moments_in xs) (moments_in ys) in omega (arith, some, e, a)

  some_behind : (xs ys : List (Act N S)) → 0 < length (moments_in ys) → 0 < length (moments_in (xs ++ ys))
  some_behind xs ys some = let e = ap length (moments_more xs ys) in let a = length-append (moments_in xs) (moments_in ys) in omega (arith, some, e, a)

  -- looks at fronts, and one more
  fronts_more : (es : List EndId) (e : EndId) (xs ys : List (Act N S)) → LooksFronts es xs → LooksFront e ys → LooksFronts (es ++ e ∷ []) (xs ++ ys)
  fronts_more [] e xs ys none f = (ys, [], f, refl, ap (λ l. l ++ ys) none ∙ sym (append-nil ys))
  fronts_more (x ∷ es) e xs ys h f =
      (h.0, h.1 ++ ys, h.2, fronts_more es e h.1 ys h.3 f, ap (λ l. l ++ ys) h.4 ∙ append_assoc h.0 h.1 ys)

  -- letters, and one more
  letters_more : (slot : ℕ) (xs : List (List (Act N S))) (acts : List (Act N S)) → TakesLetters slot xs → TakesLetter slot acts → TakesLetters slot (xs ++ acts ∷ [])
  letters_more slot [] acts none f = (f, tt)
  letters_more slot (x ∷ xs) acts h f = (h.0, letters_more slot xs acts h.1 f)

  some_letters : (slot : ℕ) (xs : List (List (Act N S))) → 0 < length xs → TakesLetters slot xs → 0 < length (moments_in (flat_map (λ x. x) xs))
  some_letters slot [] some h = absurd (omega (arith, some))
  some_letters slot (x ∷ xs) some h = some_before x (flat_map (λ x. x) xs) (some_said h.0.taken _ x (h.0.acts_are))

  -- behind a PipeTerm that leaves its end to read on, its front is looked at
  looks_behind : (c : Control) (word : Word) (e : EndId) (acts : List (Act N S)) → word ≡ PipeTerm e → awaits_delimiter (place_of c e) ≡ true → LooksFront e acts → LooksBehind c word acts
  looks_behind c word e acts is reads f = subst (λ (w : Word). LooksBehind c w acts) (sym is) (subst (λ (b : Bool). LooksWhere b e acts) (sym reads) f)

module _ {M N S : Type 0} (leads : M → List (Act N S) → M → Type 0) (none : (s : M) → leads s [] s)
    (more : (s t u : M) (before after : List (Act N S)) → leads s before t → leads t after u → leads s (before ++ after) u) where
  pub some_more : (xs : List (Act N S)) (a b c : M) → leads a xs b → LeadsSome leads b c → LeadsSome leads a c
  some_more xs a b c f g = record { acts = xs ++ g.acts; led = more a b c xs g.acts f g.led }

  module _ (as_open : M → OpenSock) where
    passes_none : (a : M) → Passes leads as_open a [] a
    passes_none a = record { led = none a; goes = refl }

    passes_more : (xs ys : List (Act N S)) (a b c : M) → Passes leads as_open a xs b → Passes leads as_open b ys c → Passes leads as_open a (xs ++ ys) c
    passes_more xs ys a b c f g = record {
      led = more a b c xs ys f.led g.led;
      goes = subst (λ (l : List (Moment N S)). PassesItems l (as_open a) (as_open c)) (sym (moments_more xs ys))
          (items_more (moments_in xs) (moments_in ys) (as_open a) (as_open b) (as_open c) f.goes g.goes);
    }

    -- ---- fronts

    pub looks_message : (e : EndId) (a b : M) → LooksAtFront leads as_open e Message a b → LooksOne leads as_open e a b
    looks_message e a b l = record { acts = Step (WaitingLook (read_through e)) ∷ []; looks = finds_one refl; passes = record { led = l.led; goes = l.stays } }

    pub looks_empty : (e : EndId) (a b : M) → LooksAtFront leads as_open e Empty a b → LooksOne leads as_open e a b
    looks_empty e a b l = record { acts = Step (EmptyLook (read_through e)) ∷ []; looks = finds_none refl; passes = record { led = l.led; goes = l.stays } }

    pub looks_end : (e : EndId) (a b c : M) → LooksAtFront leads as_open e Delimiter a b → MeetsEnd leads as_open e b c → LooksOne leads as_open e a c
    looks_end e a b c l m = record {
      acts = Step (DelimiterLook (read_through e)) ∷ acts_said m.met;
      looks = finds_end m.met m.item refl;
      passes = passes_more (Step (DelimiterLook (read_through e)) ∷ []) (acts_said m.met) a b c (record { led = l.led; goes = l.stays }) m.passes;
    }

    -- the ends before these were looked at
    pub record LooksSoFar (all now : List EndId) (a b : M) : Type 0 where
      pub done : List EndId
      pub are : all ≡ done ++ now
      pub looked : LooksAll leads as_open done a b

    pub looks_begin : (all : List EndId) (a : M) → LooksSoFar all all a a
    looks_begin all a = record { done = []; are = refl; looked = record { acts = []; looks = refl; passes = passes_none a } }

    pub looks_on : (all was now : List EndId) (e : EndId) (a b c : M) → was ≡ e ∷ now → LooksSoFar all was a b → LooksOne leads as_open e b c → LooksSoFar all now a c
    looks_on all was now e a b c is far one = record {
      done = far.done ++ e ∷ [];
      are = far.are ∙ ap (λ l. far.done ++ l) is ∙ sym (append_assoc far.done (e ∷ []) now);
      looked = record {
        acts = far.looked.acts ++ one.acts;
        looks = fronts_more far.done e far.looked.acts one.acts far.looked.looks one.looks;
        passes = passes_more far.looked.acts one.acts a b c far.looked.passes one.passes;
      };
    }

    pub looks_over : (all now : List EndId) (a b : M) → now ≡ [] → LooksSoFar all now a b → LooksAll leads as_open all a b
    looks_over all now a b is far = subst (λ (l : List EndId). LooksAll leads as_open l a b) (sym (far.are ∙ ap (λ l. far.done ++ l) is ∙ append-nil far.done)) far.looked

    -- ---- letters

    pub takes_looked : (reader : Reader) (a b c : M) → TakesOldest leads as_open (Some reader) a b → LooksOne leads as_open reader.end b c → TakesOne leads as_open a c
    takes_looked reader a b c t l = record {
      acts = acts_said t.taken ++ l.acts;
      takes = record {
        taken = t.taken;
        letter = t.letter;
        looks = l.acts;
        delivery = t.delivery;
        behind = looks_behind (left_by t.taken) t.letter.word reader.end l.acts t.behind.0 t.behind.1 l.looks;
        acts_are = refl;
      };
      passes = passes_more (acts_said t.taken) l.acts a b c t.passes l.passes;
    }

    pub takes_some : (f : Found) (o : Option Reader) (reader : Reader) (a b : M) → f ≡ TookLetter o → o ≡ Some reader → Takes leads as_open f a b → TakesOldest leads as_open (Some reader) a b
    takes_some f o reader a b is some t = subst (λ (x : Option Reader). TakesOldest leads as_open x a b) some (subst (λ (x : Found). Takes leads as_open x a b) is t)

    -- so many letters were taken
    pub record TakesSoFar (n : ℕ) (a b : M) : Type 0 where
      pub letters : List (List (Act N S))
      pub count : length letters ≡ n
      pub takes : TakesLetters (as_open a).slot letters
      pub passes : Passes leads as_open a (flat_map (λ x. x) letters) b

    pub takes_begin : (a : M) → TakesSoFar 0 a a
    takes_begin a = record { letters = []; count = refl; takes = tt; passes = passes_none a }

    pub takes_on : (n : ℕ) (a b c : M) → TakesSoFar n a b → TakesOne leads as_open b c → TakesSoFar (n + 1) a c
    takes_on n a b c far one =
        let slot = slot_stays (moments_in (flat_map (λ x. x) far.letters)) (as_open a) (as_open b) far.passes.goes in
        record {
          letters = far.letters ++ one.acts ∷ [];
          count = length-append far.letters (one.acts ∷ []) ∙ ap (λ k. k + 1) far.count;
          takes = letters_more (as_open a).slot far.letters one.acts far.takes (subst (λ k. TakesLetter k one.acts) slot one.takes);
          passes = subst (λ (l : List (Act N S)). Passes leads as_open a l c) (sym (flat_map-append (λ (x : List (Act N S)). x) far.letters (one.acts ∷ []) ∙ ap (λ l. flat_map (λ x. x) far.letters ++ l) (append-nil one.acts)))
              (passes_more (flat_map (λ x. x) far.letters) one.acts a b c far.passes one.passes);
        }

    pub takes_over : (n : ℕ) (a b c : M) → n < 64 → TakesSoFar n a b → FindsEmpty leads as_open b c → TakesAll leads as_open false a c
    takes_over n a b c few far found =
        let slot = slot_stays (moments_in (flat_map (λ x. x) far.letters)) (as_open a) (as_open b) far.passes.goes in
        record {
          letters = far.letters;
          last = Said found.look ∷ [];
          takes = far.takes;
          ends = found_empty found.look (subst (λ k. k < most_letters) (sym far.count) few) (subst (λ k. IsLookAt (Mailbox (record { 0 = k })) found.look) slot found.look_is) refl;
          limit = subst (λ k. k < most_letters) (sym far.count) few;
          passes = passes_more (flat_map (λ x. x) far.letters) (Said found.look ∷ []) a b c far.passes found.passes;
          some = some_behind (flat_map (λ x. x) far.letters) (Said found.look ∷ []) (some_said found.look [] (Said found.look ∷ []) refl);
        }

    pub takes_full : (n : ℕ) (a b : M) → n ≡ 64 → TakesSoFar n a b → TakesAll leads as_open true a b
    takes_full n a b full far =
        let all = sym (append-nil (flat_map (λ x. x) far.letters)) in
        record {
          letters = far.letters;
          last = [];
          takes = far.takes;
          ends = took_all (far.count ∙ full) refl;
          limit = far.count ∙ full;
          passes = subst (λ (l : List (Act N S)). Passes leads as_open a l b) all far.passes;
          some = subst (λ (l : List (Act N S)). 0 < length (moments_in l)) all (some_letters (as_open a).slot far.letters (let c = far.count ∙ full in omega (arith, c)) far.takes);
        }

    pub takes_stop : (n : ℕ) (a b c : M) → TakesSoFar n a b → LeadsSome leads b c → LeadsSome leads a c
    takes_stop n a b c far rest = some_more (flat_map (λ x. x) far.letters) a b c far.passes.led rest

    -- ---- a pump

    pub pumps_all : {limited : Bool} → (a b c d : M) → TakesAll leads as_open limited a b → PumpsKind leads as_open b c → LooksAll leads as_open (waiting_ends (as_open c)) c d → PumpsSo leads as_open limited a d
    pumps_all a b c d t k l =
        let taken = flat_map (λ x. x) t.letters ++ t.last in
        let rest = step_acts k.steps ++ l.acts in
        record {
          acts = taken ++ rest;
          pumps = record {
            letters = t.letters;
            last = t.last;
            takes = t.takes;
            ends = t.ends;
            heard = as_open b;
            hears = t.passes.goes;
            steps = k.steps;
            pattern = k.pattern;
            pumps = k.pumps;
            looks = l.acts;
            looks_are = subst (λ (s : OpenSock). LooksFronts (waiting_ends s) l.acts) k.new_is l.looks;
            meets = subst (λ (s : OpenSock). PassesItems (moments_in l.acts) s (as_open d)) k.new_is l.passes.goes;
            acts_are = refl;
          };
          limit = t.limit;
          led = more a b d taken rest t.passes.led (more b c d (step_acts k.steps) l.acts k.led l.passes.led);
          some = some_before taken rest t.some;
        }
