-- What was done to the pipes of closed sockets since a stretch began, after one more call.
use Rattle.std.proofs.Common.{◌≡◌, ◌∙◌, ◌<◌, ◌+◌, ℕ, Bool, true, false, List, [], ◌∷◌, ◌++◌, Some, length, map, set, refl, sym, ap, subst, arith, is_some, length-append, length-set}
use Rattle.std.specs.List.{list_any}
use Rattle.std.proofs.lemmas.List.{append-nil, map-append}
use Rattle.std.proofs.lemmas.List.Elements.{All-nil, All-cons, All-head}
use Rattle.zq_base.specs.declared.ids.EndId.{EndId}
use Rattle.spec_control.specs.Held.{Held}
use Rattle.spec_control.specs.Control.{is_end}
use Rattle.msg_pipe.specs.Known.{Known, KeepsButPipe}
use Rattle.desk.specs.declared.given.Given.{Given}
use Rattle.end_table.specs.declared.changes.PipeChange.{PipeChange}
use Rattle.end_table.specs.declared.changes.PipeChange.TheVariants.{Settled}
use Rattle.end_table.specs.declared.table.Place.{Place}
use Rattle.end_table.specs.Places.{held_of, place_at}
use Rattle.end_table.specs.Others.{IsLess, KeepsPlaces}
use Rattle.end_table.specs.Changes.{sealings_in, DoesChanges}
use Rattle.end_table.proofs.ChangeLemmas.{changes_later, changes_on, sealings_on}
use Rattle.end_table.proofs.EndsLemmas.{some_place}
use Rattle.end_table.proofs.OthersLemmas.{places_on, place_changes, places_stay}
use Rattle.end_table.proofs.PlaceLemmas.{place_there, place_within}
use Rattle.end_table.proofs.SoundLemmas.{one_some}
use Rattle.sock_core.specs.Noted.{were_told, ReadsNoMore}
use Rattle.sock_core.proofs.NotedLemmas.{were_read_on}
use Rattle.closed_ends.specs.declared.sockets.ClosedSocket.{ClosedSocket}
use Rattle.closed_ends.specs.declared.sockets.ClosedSockets.{ClosedSockets}
use Rattle.closed_ends.specs.Finding.{place_given, came_given}
use Rattle.closed_ends.specs.Has.{all_ends}
use Rattle.end_table.specs.Halving.{StandsAt}
use Rattle.closed_ends.specs.Noted.{at_place, unplaced, standing_in, sealed_ends, StoodFirst, ChangesOnce, standing_of, first_places, HasDoneTo}
use Rattle.closed_ends.proofs.ListLemmas.{any_back, any_front, all_both, mapped, same_ends}
use Rattle.closed_ends.proofs.ChangeLemmas.{Replaces}
use Rattle.closed_ends.proofs.SoundLemmas.{all_one, all_but, all_with}
use Rattle.closed_ends.specs.Mixed.{AreMixed}
use Rattle.closed_ends.proofs.MixedLemmas.{mixed_between, mixed_front, mixed_self}
use Rattle.closed_ends.proofs.AddLemmas.{all_added}
use Rattle.closed_ends.proofs.JoinLemmas.{AddsEnd}
use Rattle.closed_ends.proofs.NotedLemmas.{OneMore, one_more, FoundMixed, found_mixed, standing_more, sealed_more, rec_both, rec_more_weak, AreTold, told_more_ends, told_new, standing_new, any_between, told_of_more, keeps_both, places_come, wrote_front, came_places, LeftWith}

-- ---- the changes since a stretch began, after one more call

module _ {S O I N : Type 0} (K : Known S O I N) (first : S) (from : ClosedSockets N O I) where
  abbrev firsts : List (Place N I × Unit {0}) → List (Place N I)
  firsts came = first_places K.in_name from came

  abbrev known : List (Place N I × Unit {0}) → List EndId
  known came = sealed_ends (first_places K.in_name from came)

  -- it begins
  pub done_none : (c : ClosedSockets N O I) (pipes : S) → first ≡ pipes → from ≡ c → HasDoneTo K first from [] pipes c
  done_none c pipes same begins = subst (HasDoneTo K first from [] pipes) begins (record {
    came = [];
    came_are = sym (append-nil from.came.items);
    told = [];
    told_are = sym (append-nil (map (λ x. x.0) from.sealed.items));
    settled = [];
    settled_are = sym (append-nil from.settled.items);
    places = firsts [];
    count = refl;
    keeps = places_stay (firsts []) (firsts []) refl;
    standing = subst (AreMixed (standing_in (firsts [])))
        (ap standing_in (append-nil (map (place_given K.in_name) (all_ends from.sockets.items))) ∙ standing_new K.in_name (all_ends from.sockets.items)) (mixed_self (standing_in (firsts [])));
    placed = [];
    noted = refl;
    does = sym same;
    wrote = tt;
    seals = refl;
    again = refl;
    sealed = subst (λ (l : List EndId). AreTold l (all_ends from.sockets.items))
        (ap sealed_ends (sym (append-nil (map (place_given K.in_name) (all_ends from.sockets.items)))) ∙ sym (append-nil (known [])))
        (told_new K.in_name (all_ends from.sockets.items));
    read = All-nil (λ (x : N × Unit {0}). ∥ ReadsNoMore (firsts []) x.0 ∥₁);
  })

  -- the pipes were left alone, and the ends stand as they stood
  pub done_still : (c d : ClosedSockets N O I) (xs : List (PipeChange O I × S)) (pipes : S) → map (standing_of K.in_name) (all_ends d.sockets.items) ≡ map (standing_of K.in_name) (all_ends c.sockets.items)
      → ((es : List EndId) → AreTold es (all_ends c.sockets.items) → AreTold es (all_ends d.sockets.items))
      → d.came.items ≡ c.came.items → d.sealed.items ≡ c.sealed.items → d.settled.items ≡ c.settled.items → HasDoneTo K first from xs pipes c → HasDoneTo K first from xs pipes d
  done_still c d xs pipes stand told came sealed settled h = record {
    came = h.came;
    came_are = came ∙ h.came_are;
    told = h.told;
    told_are = ap (map (λ (x : EndId × Unit {0}). x.0)) sealed ∙ h.told_are;
    settled = h.settled;
    settled_are = settled ∙ h.settled_are;
    places = h.places;
    count = h.count;
    keeps = h.keeps;
    standing = subst (AreMixed (standing_in h.places)) (sym stand) h.standing;
    placed = h.placed;
    noted = h.noted;
    does = h.does;
    wrote = h.wrote;
    seals = h.seals;
    again = h.again;
    sealed = told (known h.came ++ h.told) h.sealed;
    read = h.read;
  }

  -- nothing of the ends changed
  pub done_same : (c d : ClosedSockets N O I) (xs : List (PipeChange O I × S)) (pipes : S) → d.sockets.items ≡ c.sockets.items
      → d.came.items ≡ c.came.items → d.sealed.items ≡ c.sealed.items → d.settled.items ≡ c.settled.items → HasDoneTo K first from xs pipes c → HasDoneTo K first from xs pipes d
  done_same c d xs pipes same came sealed settled =
      done_still c d xs pipes (ap (λ (l : List (ClosedSocket N O I)). map (standing_of K.in_name) (all_ends l)) same)
      (λ es told. subst (λ (l : List (ClosedSocket N O I)). AreTold es (all_ends l)) (sym same) told) came sealed settled

  module _ (o : ℕ) (e : EndId) (c d : ClosedSockets N O I) (g : Given N O I) (came : d.came.items ≡ c.came.items) where
    abbrev st : Given N O I → Held N × Bool
    st x = standing_of K.in_name x

    -- what is told of the ends once this one changed, or is gone
    told_but : (es : List EndId) (rs : List (Given N O I)) (r : Replaces o e g rs c.sockets.items d.sockets.items) → AreTold es (all_ends c.sockets.items) → AreTold es ((r.pre ++ r.front) ++ (r.back ++ r.post))
    told_but es rs r told =
        all_but (λ x. x.sealed ≡ true → list_any (is_end x.end) es ≡ true) (r.pre ++ r.front) (r.back ++ r.post) g (subst (AreTold es) r.was told)

    told_one : (es fs : List EndId) (k : Given N O I) (r : Replaces o e g (k ∷ []) c.sockets.items d.sockets.items) → AreTold es (all_ends c.sockets.items)
        → ((g.sealed ≡ true → list_any (is_end g.end) es ≡ true) → k.sealed ≡ true → list_any (is_end k.end) fs ≡ true) → ((x : EndId) → list_any (is_end x) es ≡ true → list_any (is_end x) fs ≡ true) → AreTold fs (all_ends d.sockets.items)
    told_one es fs k r told own more = subst (AreTold fs) (sym r.now)
        (all_with (λ x. x.sealed ≡ true → list_any (is_end x.end) fs ≡ true) (r.pre ++ r.front) (r.back ++ r.post) k
        (told_more_ends es fs ((r.pre ++ r.front) ++ (r.back ++ r.post)) more (told_but es (k ∷ []) r told))
        (own (all_one (λ x. x.sealed ≡ true → list_any (is_end x.end) es ≡ true) (r.pre ++ r.front) (r.back ++ r.post) g (subst (AreTold es) r.was told))))

    stands_was : (rs : List (Given N O I)) (r : Replaces o e g rs c.sockets.items d.sockets.items) → map st (all_ends c.sockets.items) ≡ map st (r.pre ++ r.front) ++ st g ∷ map st (r.back ++ r.post)
    stands_was rs r = ap (map st) r.was ∙ mapped st (r.pre ++ r.front) (g ∷ (r.back ++ r.post))

    stands_now : (k : Given N O I) (r : Replaces o e g (k ∷ []) c.sockets.items d.sockets.items) → map st (all_ends d.sockets.items) ≡ map st (r.pre ++ r.front) ++ st k ∷ map st (r.back ++ r.post)
    stands_now k r = ap (map st) r.now ∙ mapped st (r.pre ++ r.front) (k ∷ (r.back ++ r.post))

    stands_left : (r : Replaces o e g [] c.sockets.items d.sockets.items) → map st (all_ends d.sockets.items) ≡ map st (r.pre ++ r.front) ++ map st (r.back ++ r.post)
    stands_left r = ap (map st) r.now ∙ mapped st (r.pre ++ r.front) (r.back ++ r.post)

    -- it goes to another state
    pub done_turned : (k : Given N O I) (r : Replaces o e g (k ∷ []) c.sockets.items d.sockets.items) (xs : List (PipeChange O I × S)) (pipes : S) → st k ≡ st g → k.sealed ≡ g.sealed → k.end ≡ g.end
        → d.sealed.items ≡ c.sealed.items → d.settled.items ≡ c.settled.items → HasDoneTo K first from xs pipes c → HasDoneTo K first from xs pipes d
    done_turned k r xs pipes same flag end sealed settled =
        done_still c d xs pipes
        (stands_now k r ∙ ap (λ (x : Held N × Bool). map st (r.pre ++ r.front) ++ x ∷ map st (r.back ++ r.post)) same ∙ sym (stands_was (k ∷ []) r))
        (λ es told. told_one es es k r told (λ own flagged. ap (λ (x : EndId). list_any (is_end x) es) end ∙ own (sym flag ∙ flagged)) (λ x h. h))
        came sealed settled

    -- the pipe that it writes was changed
    pub done_changed : (k : Given N O I) (r : Replaces o e g (k ∷ []) c.sockets.items d.sockets.items) (xs ys : List (PipeChange O I × S)) (old new : S) (a : List (EndId × Bool)) → (st k).0 ≡ (st g).0 → is_some g.out ≡ true
        → ChangesOnce K (place_given K.in_name g) a xs old ys new
        → map (λ x. x.0) d.sealed.items ≡ map (λ x. x.0) c.sealed.items ++ map (λ x. x.0) a
        → ((es : List EndId) (bs : List (EndId × Bool)) → were_told es bs ≡ true → (g.sealed ≡ true → list_any (is_end g.end) (es ++ map (λ x. x.0) bs) ≡ true) → were_told es (bs ++ a) ≡ true)
        → ((es : List EndId) → (g.sealed ≡ true → list_any (is_end g.end) es ≡ true) → k.sealed ≡ true → list_any (is_end k.end) (es ++ map (λ x. x.0) a) ≡ true)
        → d.settled.items ≡ c.settled.items → HasDoneTo K first from xs old c → HasDoneTo K first from ys new d
    done_changed k r xs ys old new a same writes once sealed more flagged settled h = record {
      came = h.came;
      came_are = came ∙ h.came_are;
      told = h.told ++ map (λ x. x.0) a;
      told_are = sealed ∙ ap (λ (l : List EndId). l ++ map (λ (x : EndId × Bool). x.0) a) h.told_are ∙ same_ends (map (λ (x : EndId × Unit {0}). x.0) from.sealed.items) h.told (map (λ (x : EndId × Bool). x.0) a);
      settled = h.settled;
      settled_are = settled ∙ h.settled_are;
      places = after;
      count = length-set h.places f.at q ∙ h.count;
      keeps = places_on (firsts h.came) h.places after h.keeps stays;
      standing = subst (AreMixed (standing_in after)) (ap (λ (x : Held N × Bool). map st (r.pre ++ r.front) ++ x ∷ map st (r.back ++ r.post)) is_now ∙ sym (stands_now k r)) (f.now q f.held);
      placed = m.next;
      noted = m.noted;
      does = m.does;
      wrote = m.wrote;
      seals = ap (λ (l : List EndId). l ++ map (λ (x : EndId × Bool). x.0) a) h.seals ∙ sym (map-append (λ (x : EndId × Bool). x.0) (sealings_in h.placed) a) ∙ ap (map (λ (x : EndId × Bool). x.0)) (sym m.sealings_are);
      again = ap (were_told (known h.came)) m.sealings_are ∙ more (known h.came) (sealings_in h.placed) h.again (λ is. subst (λ (l : List EndId). list_any (is_end g.end) (known h.came ++ l) ≡ true) h.seals (own is));
      sealed = told_one (known h.came ++ h.told) (known h.came ++ (h.told ++ map (λ x. x.0) a)) k r h.sealed
          (λ before now. subst (λ (l : List EndId). list_any (is_end k.end) l ≡ true) (same_ends (known h.came) h.told (map (λ (x : EndId × Bool). x.0) a)) (flagged (known h.came ++ h.told) before now))
          (λ x there. subst (λ (l : List EndId). list_any (is_end x) l ≡ true) (same_ends (known h.came) h.told (map (λ (y : EndId × Bool). y.0) a)) (any_front (is_end x) (known h.came ++ h.told) (map (λ (y : EndId × Bool). y.0) a) there));
      read = were_read_on h.places after h.settled h.settled stays refl h.read;
    }
      where
        f : FoundMixed h.places (map st (r.pre ++ r.front)) (st g) (map st (r.back ++ r.post))
        f = found_mixed h.places (map st (r.pre ++ r.front)) (st g) (map st (r.back ++ r.post)) (subst (AreMixed (standing_in h.places)) (stands_was (k ∷ []) r) h.standing)

        q : Place N I
        q = record f.place { writes = is_some k.out }

        after : List (Place N I)
        after = set h.places f.at q

        less : IsLess f.place q
        less = record { end_is = refl; written_is = refl; read_is = refl; held = λ x. x; writes = λ x. f.writes_is ∙ writes }

        stays : KeepsPlaces h.places after
        stays = place_changes h.places f.at f.place q f.there less

        is_held : held_of q ≡ (st k).0
        is_held = (λ i. record { end = f.end_is i; written = f.written_is i; read = f.read_is i }) ∙ sym same

        is_now : ◌≡◌ {A = Held N × Bool} (held_of q, is_some k.out) (st k)
        is_now = ap (λ (x : Held N). (x, is_some k.out)) is_held

        own : g.sealed ≡ true → list_any (is_end g.end) (known h.came ++ h.told) ≡ true
        own = all_one (λ x. x.sealed ≡ true → list_any (is_end x.end) (known h.came ++ h.told) ≡ true) (r.pre ++ r.front) (r.back ++ r.post) g (subst (AreTold (known h.came ++ h.told)) r.was h.sealed)

        m : OneMore K (place_given K.in_name g) q refl f.end_is f.written_is after f.at (place_there h.places f.at f.place q f.there) (firsts h.came) first h.placed xs ys old new a
        m = one_more K (place_given K.in_name g) q refl f.end_is f.written_is after f.at (place_there h.places f.at f.place q f.there) (firsts h.came) first h.placed xs ys old new a
            h.noted (changes_later K h.places after stays h.placed first old h.does) h.wrote
            (λ x there. let less = h.keeps.each f.at x f.place there f.there in (less.held f.held, λ w. less.writes (f.writes_is ∙ w)))
            (let n = h.count in let w = place_within h.places f.at f.place f.there in omega (arith, n, w)) once

    -- the pipe that it read was settled, or it was taken back
    module _ (r : Replaces o e g [] c.sockets.items d.sockets.items) (sealed : d.sealed.items ≡ c.sealed.items) where
      pub done_left : (xs ys : List (PipeChange O I × S)) (old new : S) (settled : List (N × Unit {0})) → d.settled.items ≡ c.settled.items ++ settled
          → ((ps qs : List (Place N I)) (k : ℕ) (p : Place N I) → KeepsPlaces ps qs → place_at qs k ≡ Some p → p.end ≡ g.end → p.read ≡ K.in_name g.input → p.held ≡ false → k < length qs
          → (placed : List (PipeChange O I × S)) → unplaced placed ≡ xs → DoesChanges K ps first placed old → LeftWith K first qs k placed ys new settled)
          → HasDoneTo K first from xs old c → HasDoneTo K first from ys new d
      done_left xs ys old new settled settles leaves h = record {
        came = h.came;
        came_are = came ∙ h.came_are;
        told = h.told;
        told_are = ap (map (λ (x : EndId × Unit {0}). x.0)) sealed ∙ h.told_are;
        settled = h.settled ++ settled;
        settled_are = settles ∙ ap (λ (l : List (N × Unit {0})). l ++ settled) h.settled_are ∙ same_ends from.settled.items h.settled settled;
        places = after;
        count = length-set h.places f.at q ∙ h.count;
        keeps = places_on (firsts h.came) h.places after h.keeps stays;
        standing = subst (AreMixed (standing_in after)) (sym (stands_left r)) (f.gone q refl);
        placed = h.placed ++ l.more;
        noted = l.noted;
        does = l.does;
        wrote = rec_both (λ (x : PipeChange O I × S). StoodFirst (firsts h.came) x.0) h.placed l.more h.wrote (l.wrote (firsts h.came) stood);
        seals = h.seals ∙ ap (map (λ (x : EndId × Bool). x.0)) (sym no_seal);
        again = ap (were_told (known h.came)) no_seal ∙ h.again;
        sealed = subst (AreTold (known h.came ++ h.told)) (sym r.now) (told_but (known h.came ++ h.told) [] r h.sealed);
        read = all_both (λ (x : N × Unit {0}). ∥ ReadsNoMore after x.0 ∥₁) h.settled settled (were_read_on h.places after h.settled h.settled stays refl h.read) l.read;
      }
        where
          f : FoundMixed h.places (map st (r.pre ++ r.front)) (st g) (map st (r.back ++ r.post))
          f = found_mixed h.places (map st (r.pre ++ r.front)) (st g) (map st (r.back ++ r.post)) (subst (AreMixed (standing_in h.places)) (stands_was [] r) h.standing)

          q : Place N I
          q = record f.place { held = false }

          after : List (Place N I)
          after = set h.places f.at q

          less : IsLess f.place q
          less = record { end_is = refl; written_is = refl; read_is = refl; held = λ x. f.held; writes = λ x. x }

          stays : KeepsPlaces h.places after
          stays = place_changes h.places f.at f.place q f.there less

          there : place_at after f.at ≡ Some q
          there = place_there h.places f.at f.place q f.there

          l : LeftWith K first after f.at h.placed ys new settled
          l = leaves h.places after f.at q stays there f.end_is f.read_is refl (place_within after f.at q there) h.placed h.noted h.does

          stood : StandsAt (firsts h.came) f.at
          stood =
              let x = some_place (firsts h.came) f.at (let n = h.count in let w = place_within h.places f.at f.place f.there in omega (arith, n, w)) in
              record { place = x.0; there = x.1; held = (h.keeps.each f.at x.0 f.place x.1 f.there).held f.held }

          no_seal : sealings_in (h.placed ++ l.more) ≡ sealings_in h.placed
          no_seal = sealings_on h.placed l.more ∙ ap (λ (x : List (EndId × Bool)). sealings_in h.placed ++ x) l.no_seals ∙ append-nil (sealings_in h.placed)

      pub done_gone : (xs ys : List (PipeChange O I × S)) (old new : S) → ys ≡ xs ++ (Settled 0 g.end, new) ∷ [] → KeepsButPipe K (K.in_name g.input) old new
          → d.settled.items ≡ c.settled.items ++ (K.in_name g.input, tt) ∷ [] → HasDoneTo K first from xs old c → HasDoneTo K first from ys new d
      done_gone xs ys old new one keeps settled = done_left xs ys old new ((K.in_name g.input, tt) ∷ []) settled (λ ps qs k p stays there end reads gone lt placed noted does. record {
        more = (Settled k g.end, new) ∷ [];
        noted = map-append (λ (x : PipeChange O I × S). (at_place 0 x.0, x.1)) placed ((Settled k g.end, new) ∷ []) ∙ ap (λ (x : List (PipeChange O I × S)). x ++ (Settled 0 g.end, new) ∷ []) noted ∙ sym one;
        does = changes_on K qs placed ((Settled k g.end, new) ∷ []) first old new (changes_later K ps qs stays placed first old does) (
          record {
            placed = record { within = lt; end_is = λ x now. ap (λ (y : Place N I). y.end) (sym (one_some p x (sym there ∙ now))) ∙ end };
            gone = λ x now. ap (λ (y : Place N I). y.held) (sym (one_some p x (sym there ∙ now))) ∙ gone;
            keeps = λ x now. subst (λ (n : N). KeepsButPipe K n old new) (sym reads ∙ ap (λ (y : Place N I). y.read) (one_some p x (sym there ∙ now))) keeps;
          },
          refl,
        );
        wrote = λ fs stood. (stood, tt);
        no_seals = refl;
        read = All-cons (λ (x : N × Unit {0}). ∥ ReadsNoMore qs x.0 ∥₁) (K.in_name g.input, tt) [] ∣ record { at = k; place = p; there = there; gone = gone; name_is = reads } ∣₁ (All-nil (λ (x : N × Unit {0}). ∥ ReadsNoMore qs x.0 ∥₁));
      })

  -- ends came, wherever they stand among the others
  pub done_more : (c d : ClosedSockets N O I) (gs : List (Given N O I)) (xs : List (PipeChange O I × S)) (pipes : S)
      → ((ss : List (Held N × Bool)) → AreMixed ss (map (standing_of K.in_name) (all_ends c.sockets.items)) → AreMixed (ss ++ map (standing_of K.in_name) gs) (map (standing_of K.in_name) (all_ends d.sockets.items)))
      → ((es : List EndId) → AreTold es (all_ends c.sockets.items) → AreTold es gs → AreTold es (all_ends d.sockets.items))
      → d.came.items ≡ c.came.items ++ map (came_given K.in_name) gs → d.sealed.items ≡ c.sealed.items → d.settled.items ≡ c.settled.items → HasDoneTo K first from xs pipes c → HasDoneTo K first from xs pipes d
  done_more c d gs xs pipes stand tell comes sealed settled h = record {
    came = h.came ++ map (came_given K.in_name) gs;
    came_are = comes ∙ ap (λ (l : List (Place N I × Unit {0})). l ++ map (came_given K.in_name) gs) h.came_are ∙ same_ends from.came.items h.came (map (came_given K.in_name) gs);
    told = h.told;
    told_are = ap (map (λ (x : EndId × Unit {0}). x.0)) sealed ∙ h.told_are;
    settled = h.settled;
    settled_are = settled ∙ h.settled_are;
    places = h.places ++ new;
    count = length-append h.places new ∙ ap (λ n. n + length new) h.count ∙ sym (length-append (firsts h.came) new) ∙ ap length (sym firsts_more);
    keeps = subst (λ (l : List (Place N I)). KeepsPlaces l (h.places ++ new)) (sym firsts_more) (keeps_both (firsts h.came) h.places new h.count h.keeps);
    standing = subst (λ (l : List (Held N × Bool)). AreMixed l (map (standing_of K.in_name) (all_ends d.sockets.items)))
        (sym (standing_more h.places new ∙ ap (λ (l : List (Held N × Bool)). standing_in h.places ++ l) (standing_new K.in_name gs))) (stand (standing_in h.places) h.standing);
    placed = h.placed;
    noted = h.noted;
    does = changes_later K h.places (h.places ++ new) (places_come h.places new) h.placed first pipes h.does;
    wrote = rec_more_weak (λ (x : PipeChange O I × S). StoodFirst (firsts h.came) x.0) (λ (x : PipeChange O I × S). StoodFirst (first_places K.in_name from (h.came ++ map (came_given K.in_name) gs)) x.0)
        (λ x w. subst (λ (l : List (Place N I)). StoodFirst l x.0) (sym firsts_more) (wrote_front (firsts h.came) new x.0 w)) h.placed h.wrote;
    seals = h.seals;
    again = subst (λ (l : List EndId). were_told l (sealings_in h.placed) ≡ true) (sym known_more) (told_of_more (known h.came) (known h.came ++ sealed_ends new) (λ e. any_front (is_end e) (known h.came) (sealed_ends new)) (sealings_in h.placed) h.again);
    sealed = subst (λ (l : List EndId). AreTold (l ++ h.told) (all_ends d.sockets.items)) (sym known_more)
        (tell ((known h.came ++ sealed_ends new) ++ h.told)
        (told_more_ends (known h.came ++ h.told) ((known h.came ++ sealed_ends new) ++ h.told) (all_ends c.sockets.items) (λ e. any_between (is_end e) (known h.came) (sealed_ends new) h.told) h.sealed)
        (told_more_ends (sealed_ends new) ((known h.came ++ sealed_ends new) ++ h.told) gs (λ e there. any_front (is_end e) (known h.came ++ sealed_ends new) h.told (any_back (is_end e) (known h.came) (sealed_ends new) there)) (told_new K.in_name gs)));
    read = were_read_on h.places (h.places ++ new) h.settled h.settled (places_come h.places new) refl h.read;
  }
    where
      new : List (Place N I)
      new = map (place_given K.in_name) gs

      firsts_more : first_places K.in_name from (h.came ++ map (came_given K.in_name) gs) ≡ firsts h.came ++ new
      firsts_more =
          ap (λ (l : List (Place N I)). map (place_given K.in_name) (all_ends from.sockets.items) ++ l) (mapped (λ (x : Place N I × Unit {0}). x.0) h.came (map (came_given K.in_name) gs)
          ∙ ap (λ (l : List (Place N I)). map (λ (x : Place N I × Unit {0}). x.0) h.came ++ l) (came_places K.in_name gs))
          ∙ sym (same_ends (map (place_given K.in_name) (all_ends from.sockets.items)) (map (λ (x : Place N I × Unit {0}). x.0) h.came) new)

      known_more : sealed_ends (first_places K.in_name from (h.came ++ map (came_given K.in_name) gs)) ≡ known h.came ++ sealed_ends new
      known_more = ap sealed_ends firsts_more ∙ sealed_more (firsts h.came) new

  -- those of a closed socket that came
  pub done_come : (c d : ClosedSockets N O I) (s : ClosedSocket N O I) (xs : List (PipeChange O I × S)) (pipes : S) → d.sockets.items ≡ c.sockets.items ++ s ∷ []
      → d.came.items ≡ c.came.items ++ map (came_given K.in_name) s.ends.items → d.sealed.items ≡ c.sealed.items → d.settled.items ≡ c.settled.items → HasDoneTo K first from xs pipes c → HasDoneTo K first from xs pipes d
  done_come c d s xs pipes added = done_more c d s.ends.items xs pipes
      (λ ss m. subst (AreMixed (ss ++ map (standing_of K.in_name) s.ends.items)) (sym (ap (map (standing_of K.in_name)) now ∙ mapped (standing_of K.in_name) (all_ends c.sockets.items) s.ends.items))
      (mixed_front ss (map (standing_of K.in_name) (all_ends c.sockets.items)) (map (standing_of K.in_name) s.ends.items) m))
      (λ es a b. subst (AreTold es) (sym now) (all_both (λ (x : Given N O I). x.sealed ≡ true → list_any (is_end x.end) es ≡ true) (all_ends c.sockets.items) s.ends.items a b))
    where
      now : all_ends d.sockets.items ≡ all_ends c.sockets.items ++ s.ends.items
      now = ap all_ends added ∙ all_added c.sockets.items s

  -- one joined a closed socket
  pub done_join : (o : ℕ) (c d : ClosedSockets N O I) (g : Given N O I) (xs : List (PipeChange O I × S)) (pipes : S) → AddsEnd o g c.sockets.items d.sockets.items
      → d.came.items ≡ c.came.items ++ came_given K.in_name g ∷ [] → d.sealed.items ≡ c.sealed.items → d.settled.items ≡ c.settled.items → HasDoneTo K first from xs pipes c → HasDoneTo K first from xs pipes d
  done_join o c d g xs pipes a = done_more c d (g ∷ []) xs pipes
      (λ ss m. subst (AreMixed (ss ++ st g ∷ [])) (sym (ap (map st) a.now ∙ mapped st a.pre (g ∷ a.post)))
      (mixed_between ss [] (map st a.pre) (map st a.post) (st g)
      (subst (λ (l : List (Held N × Bool)). AreMixed l (map st a.pre ++ map st a.post)) (sym (append-nil ss)) (subst (AreMixed ss) (ap (map st) a.was ∙ mapped st a.pre a.post) m))))
      (λ es told one. subst (AreTold es) (sym a.now)
      (all_with (λ (x : Given N O I). x.sealed ≡ true → list_any (is_end x.end) es ≡ true) a.pre a.post g (subst (AreTold es) a.was told) (All-head (λ (x : Given N O I). x.sealed ≡ true → list_any (is_end x.end) es ≡ true) g [] one)))
    where
      st : Given N O I → Held N × Bool
      st x = standing_of K.in_name x
