-- What comes before a call of a kind is what comes before one of a socket of any kind.
use Rattle.std.proofs.Common.{◌≡◌, ℕ, Bool, true, List, ◌∷◌, ◌++◌, refl, sym, ap, subst, ◌∙◌}
use Rattle.std.specs.Prelude.{Result, Ok, Err, OnOk, OnErr, Option, None}
use Rattle.std.specs.declared.alloc.AllocError.{AllocError}
use Rattle.zq_base.specs.Message.{Frames}
use Rattle.spec_pattern.specs.PipeStep.{PipeStep}
use Rattle.spec_pattern.specs.TurnList.{End}
use Rattle.std.proofs.lemmas.List.{map-append}
use Rattle.std.specs.Map.{keys_of}
use Rattle.spec_pattern.specs.Topics.{Topic}
use Rattle.spec_pattern.specs.AtPlaces as places
use Rattle.pub_sub.specs.Places.{TellsOf, subs_at, is_place}
use Rattle.pub_sub.specs.Subscribing.{SubState, subscriber_at, TellsPeers, StopsTelling}
use Rattle.pub_sub.specs.Hearing.{HearsPeers, StopsHearing}
use Rattle.pub_sub.specs.Publishers.{PubState, publisher_at, meant}
use Rattle.any_sock.specs.Over.{Leftover}
use Rattle.any_sock.specs.Calls.{PumpedOver, PumpStopped}
use Rattle.any_sock.specs.Stopped.{ToldSome}
use Rattle.any_sock.proofs.PlaceLemmas.{all_behind}
use Rattle.pub_sub.proofs.KnownLemmas.{place_of_all}
use Rattle.pub_sub.proofs.SubscriberLemmas.{in_first}
use Rattle.any_sock.specs.declared.any_sock.AnySock.{AnySock}
use Rattle.any_sock.specs.declared.any_sock.AnySock.TheVariants as sock
use Rattle.any_sock.proofs.RecvLemmas.{none_kept}

-- what holds where there was no error, and where there was one
pub ok_as : (r : Result (Unit {0}) AllocError) (P Q : Type 0) → (P → Q) → OnOk r P → OnOk r Q
ok_as (Ok done) P Q so p = so p
ok_as (Err e) P Q so p = tt

pub err_as : (r : Result (Unit {0}) AllocError) (P Q : Type 0) → (P → Q) → OnErr r P → OnErr r Q
err_as (Ok done) P Q so p = tt
err_as (Err e) P Q so p = so p

-- what is left where this is to be obeyed
abbrev still_obeys : Option (ℕ × Frames) → Leftover
still_obeys k = record { to_give = None; to_obey = k }

module _ {S : Type 0} (runs : S → List PipeStep → S → Type 0) (ends : ℕ → End) (writable : ℕ → Bool) (old new : S) (s : AnySock) (p p' : PubState) where
  pub pub_pumped : s ≡ sock.Pub p → HearsPeers runs ends old new p p' → PumpedOver runs ends writable old new s (sock.Pub p')
  pub_pumped is x = subst (λ (t : AnySock). PumpedOver runs ends writable old new t (sock.Pub p')) (sym is) (record {
    steps = x.steps;
    runs_are = x.runs_are;
    step = λ w reads. (publisher_at ends p', x.hears reads.apart, refl);
    left_is = ap still_obeys (x.kept_is ∙ sym (none_kept ends p));
  })

  pub xpub_pumped : s ≡ sock.XPub p → HearsPeers runs ends old new p p' → PumpedOver runs ends writable old new s (sock.XPub p')
  xpub_pumped is x = subst (λ (t : AnySock). PumpedOver runs ends writable old new t (sock.XPub p')) (sym is) (record {
    steps = x.steps;
    runs_are = x.runs_are;
    step = λ w reads. (publisher_at ends p', x.hears reads.apart, refl);
    left_is = ap still_obeys (x.kept_is ∙ sym (none_kept ends p));
  })

  pub pub_stopped : s ≡ sock.Pub p → StopsHearing runs ends old new p p' → PumpStopped runs ends writable old new s (sock.Pub p')
  pub_stopped is x = subst (λ (t : AnySock). PumpStopped runs ends writable old new t (sock.Pub p')) (sym is) (record {
    steps = x.steps;
    runs_are = x.runs_are;
    step = λ apart. (publisher_at ends (meant ends p'), (x.rounds, x.hears apart), refl);
  })

  pub xpub_stopped : s ≡ sock.XPub p → StopsHearing runs ends old new p p' → PumpStopped runs ends writable old new s (sock.XPub p')
  xpub_stopped is x = subst (λ (t : AnySock). PumpStopped runs ends writable old new t (sock.XPub p')) (sym is) (record {
    steps = x.steps;
    runs_are = x.runs_are;
    step = λ apart. (publisher_at ends (meant ends p'), (x.rounds, x.hears apart), refl);
  })

-- what is told of all places is told of the peers
pub told_followers : (can_write : End → Bool) (ends : ℕ → End) (writable : ℕ → Bool) (u : SubState) → places.TellsWritable can_write ends writable (u.ins ++ keys_of u.followers)
    → TellsOf can_write ends writable (keys_of u.followers)
told_followers can_write ends writable u all q there =
    let P = λ (k : ℕ). can_write (ends k) ≡ writable k in
    place_of_all P (keys_of u.followers) q (all_behind P u.ins (keys_of u.followers) all) there

module _ {S : Type 0} (runs : S → List PipeStep → S → Type 0) (ends : ℕ → End) (writable : ℕ → Bool) (old new : S) (u u' : SubState) where
  -- some were told
  pub told_some : (x : StopsTelling runs ends writable old new u u')
      → ToldSome (λ can_write. places.TellsWritable can_write ends writable (u.ins ++ keys_of u.followers)) (subscriber_at ends u) (x.stops.tells.steps ++ x.stops.telling.steps) (subscriber_at ends u')
  told_some x = (
    subs_at ends u'.followers,
    (λ w reads. record {
      before = subs_at ends x.stops.before;
      before' = subs_at ends x.stops.before';
      peer = ends x.stops.place;
      told = x.stops.told;
      told' = x.stops.told';
      behind = subs_at ends x.stops.behind;
      followers_are = ap (subs_at ends) x.stops.rows_are ∙ map-append (λ (f : ℕ × List Topic). (ends f.0, f.1)) x.stops.before ((x.stops.place, x.stops.told) ∷ x.stops.behind);
      followers_new = ap (subs_at ends) x.stops.rows_new ∙ map-append (λ (f : ℕ × List Topic). (ends f.0, f.1)) x.stops.before' ((x.stops.place, x.stops.told') ∷ x.stops.behind);
      first = x.stops.tells.steps;
      changes = x.stops.telling.changes;
      last = x.stops.telling.steps;
      tells = x.stops.tells.tells w (λ q there. told_followers w ends writable u reads q (in_front x q there));
      through = x.stops.telling.through;
      steps_are = refl;
    }),
    ap (subscriber_at ends) x.new_is,
  )
    where
      in_front : (x : StopsTelling runs ends writable old new u u') (q : ℕ) → is_place (keys_of x.stops.before) q ≡ true → is_place (keys_of u.followers) q ≡ true
      in_front x q there =
          ap (λ l. is_place (keys_of l) q) x.stops.rows_are
          ∙ ap (λ l. is_place l q) (map-append (λ (f : ℕ × List Topic). f.0) x.stops.before ((x.stops.place, x.stops.told) ∷ x.stops.behind))
          ∙ in_first (keys_of x.stops.before) (keys_of ((x.stops.place, x.stops.told) ∷ x.stops.behind)) q there

  -- and these were the steps
  abbrev pub steps_told : StopsTelling runs ends writable old new u u' → List PipeStep
  steps_told x = x.stops.tells.steps ++ x.stops.telling.steps

  pub runs_told : (on : (s t u : S) (before after : List PipeStep) → runs s before t → runs t after u → runs s (before ++ after) u)
      → (x : StopsTelling runs ends writable old new u u') → runs old (steps_told x) new
  runs_told on x = on old x.stops.mid new x.stops.tells.steps x.stops.telling.steps x.stops.tells.runs_are x.stops.telling.runs_are

module _ {S : Type 0} (runs : S → List PipeStep → S → Type 0) (ends : ℕ → End) (writable : ℕ → Bool) (old new : S) (s : AnySock) (u u' : SubState) where
  pub sub_pumped : s ≡ sock.Sub u → TellsPeers runs ends writable old new u u' → PumpedOver runs ends writable old new s (sock.Sub u')
  sub_pumped is x = subst (λ (t : AnySock). PumpedOver runs ends writable old new t (sock.Sub u')) (sym is) (record {
    steps = x.steps;
    runs_are = x.runs_are;
    step = λ w reads. (subscriber_at ends u', x.step w (told_followers w ends writable u reads.peers), refl);
    left_is = refl;
  })

  pub xsub_pumped : s ≡ sock.XSub u → TellsPeers runs ends writable old new u u' → PumpedOver runs ends writable old new s (sock.XSub u')
  xsub_pumped is x = subst (λ (t : AnySock). PumpedOver runs ends writable old new t (sock.XSub u')) (sym is) (record {
    steps = x.steps;
    runs_are = x.runs_are;
    step = λ w reads. (subscriber_at ends u', x.step w (told_followers w ends writable u reads.peers), refl);
    left_is = refl;
  })

  module _ (on : (s t u : S) (before after : List PipeStep) → runs s before t → runs t after u → runs s (before ++ after) u) where
    pub sub_stopped : s ≡ sock.Sub u → StopsTelling runs ends writable old new u u' → PumpStopped runs ends writable old new s (sock.Sub u')
    sub_stopped is x = subst (λ (t : AnySock). PumpStopped runs ends writable old new t (sock.Sub u')) (sym is) (record {
      steps = steps_told runs ends writable old new u u' x;
      runs_are = runs_told runs ends writable old new u u' on x;
      step = λ apart. (subscriber_at ends u', told_some runs ends writable old new u u' x, refl);
    })

    pub xsub_stopped : s ≡ sock.XSub u → StopsTelling runs ends writable old new u u' → PumpStopped runs ends writable old new s (sock.XSub u')
    xsub_stopped is x = subst (λ (t : AnySock). PumpStopped runs ends writable old new t (sock.XSub u')) (sym is) (record {
      steps = steps_told runs ends writable old new u u' x;
      runs_are = runs_told runs ends writable old new u u' on x;
      step = λ apart. (subscriber_at ends u', told_some runs ends writable old new u u' x, refl);
    })
