-- What is kept, as lines are read: sockets by name in a map, actors in a list.
use Rattle.std.proofs.Common.{◌≡◌, ap, sym, subst, ◌∙◌, ◌+◌, ◌++◌, List, [], ◌∷◌, ℕ, Bool, true, false, ⊎_elim}
use Rattle.std.specs.Prelude.{Option, Some, None, if◌then◌else◌}
use Rattle.std.specs.BTreeMap.{BTreeMap, get_by, UpdatesBy, IsEmpty}
use Rattle.std.specs.Cmp.{eq_by_cmp_equiv}
use Rattle.std.specs.Cmp.Lexicographic.{slice_cmp, bytes_decides, nat_list_cmp_total, nat_list_eq_equiv}
use Rattle.std.specs.Map.{lookup, IsKeyTest, AreApart, KeepsOthers}
use Rattle.std.specs.Ordering.{is_eq, nat_cmp}
use Rattle.std.specs.Str.{bytes_eq}
use Rattle.std.proofs.lemmas.Bool.{cases_Bool, cond-true, cond-false}
use Rattle.std.proofs.lemmas.Map.Text.{is_eq-slice_cmp}
use Rattle.zq_script.specs.declared.known.Known.{Known}
use Rattle.zq_script.specs.Known.{HasLearned, kept_socket}
use Rattle.zq_script.specs.Statement.{Learned, nothing_learned, with_actor, with_socket, without_socket}

apart : (bs cs ks : List ℕ) → bytes_eq bs cs ≡ false → bytes_eq bs ks ≡ true → bytes_eq cs ks ≡ false
apart bs cs ks n y = nat_list_eq_equiv.symm cs ks ∙ sym (nat_list_eq_equiv.congr bs ks cs y) ∙ n

apart_in_order : (bs cs ks : List ℕ) → bytes_eq bs cs ≡ false → is_eq (slice_cmp nat_cmp bs ks) ≡ true → is_eq (slice_cmp nat_cmp cs ks) ≡ false
apart_in_order bs cs ks n y = is_eq-slice_cmp cs ks ∙ apart bs cs ks n (sym (is_eq-slice_cmp bs ks) ∙ y)

other_entries : {K X : Type 0} (eq : K → K → Bool) (test : K → Bool) (old new : List (K × X)) → KeepsOthers eq test old new → (other : K → Bool) → IsKeyTest eq other → AreApart test other → lookup other new ≡ lookup other old
unfolding KeepsOthers
other_entries eq test old new h = h

-- g is w at bs, and f at other texts
by_text : {W : Type 0} (f g : List ℕ → W) (bs : List ℕ) (w : W) → g bs ≡ w → ((cs : List ℕ) → bytes_eq bs cs ≡ false → g cs ≡ f cs) → (cs : List ℕ) → g cs ≡ (if bytes_eq bs cs then w else f cs)
by_text f g bs w here other cs =
    ⊎_elim
    (λ y. subst (λ l. g l ≡ w) ((bytes_decides bs cs).0 y) here ∙ sym (cond-true (bytes_eq bs cs) w (f cs) y))
    (λ n. other cs n ∙ sym (cond-false (bytes_eq bs cs) w (f cs) n))
    (cases_Bool (bytes_eq bs cs))

-- what a look-up by text finds in a map after a change at the text bs
pub get_by-after : {K X : Type 0} (items : K → List ℕ) (bs : List ℕ) (m n : BTreeMap K X) (w : Option X)
    → UpdatesBy (λ x y. slice_cmp nat_cmp (items x) (items y)) (λ k. slice_cmp nat_cmp bs (items k)) m n w
    → (cs : List ℕ) → get_by (λ k. slice_cmp nat_cmp cs (items k)) n ≡ (if bytes_eq bs cs then w else get_by (λ k. slice_cmp nat_cmp cs (items k)) m)
get_by-after items bs m n w h =
    by_text (λ ds. get_by (λ k. slice_cmp nat_cmp ds (items k)) m) (λ ds. get_by (λ k. slice_cmp nat_cmp ds (items k)) n) bs w h.1
    (λ cs e. other_entries _ _ _ _ h.3 _ (λ x y. (eq_by_cmp_equiv nat_list_cmp_total).congr cs (items x) (items y)) (λ k. apart_in_order bs cs (items k) e))

-- nothing is known before the first line
pub knows_nothing : (known : Known) → known.actors.items ≡ [] → IsEmpty known.sockets → known.count ≡ 0 → HasLearned known nothing_learned
unfolding nothing_learned
knows_nothing known a s n = record { actors = a; sockets = λ word. ap (lookup _) s; count = n }

module _ (old new : Known) (name : List ℕ) where
  -- a new actor begins, with no socket
  pub knows_actor : new.actors.items ≡ old.actors.items ++ name ∷ [] → IsEmpty new.sockets → new.count ≡ 0
      → (learned : Learned) → HasLearned old learned → HasLearned new (with_actor name learned)
  unfolding with_actor
  knows_actor a s n learned h = record { actors = a ∙ ap (λ l. l ++ name ∷ []) h.actors; sockets = λ word. ap (lookup _) s; count = n }

  -- the last actor has one more socket
  pub knows_socket : (key : List ℕ) → key ≡ name → new.actors.items ≡ old.actors.items
      → ((word : List ℕ) → kept_socket new word ≡ (if bytes_eq key word then Some old.count else kept_socket old word)) → new.count ≡ old.count + 1
      → (learned : Learned) → HasLearned old learned → HasLearned new (with_socket name learned)
  unfolding with_socket
  knows_socket key k a s n learned h = record {
    actors = a ∙ h.actors;
    sockets = λ word. s word ∙ ap (λ key. if bytes_eq key word then Some old.count else kept_socket old word) k ∙ ap (λ c. if bytes_eq name word then Some c else kept_socket old word) h.count ∙ ap (λ o. if bytes_eq name word then Some learned.count else o) (h.sockets word);
    count = n ∙ ap (λ c. c + 1) h.count;
  }

  -- a socket is closed
  pub knows_closed : new.actors.items ≡ old.actors.items
      → ((word : List ℕ) → kept_socket new word ≡ (if bytes_eq name word then None else kept_socket old word)) → new.count ≡ old.count
      → (learned : Learned) → HasLearned old learned → HasLearned new (without_socket name learned)
  unfolding without_socket
  knows_closed a s n learned h = record {
    actors = a ∙ h.actors;
    sockets = λ word. s word ∙ ap (λ (o : Option ℕ). if bytes_eq name word then None else o) (h.sockets word);
    count = n ∙ h.count;
  }
