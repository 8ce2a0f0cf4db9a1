-- The ends of closed sockets stay sound, and others are left, once one of them changed or is gone.
use Rattle.std.proofs.Common.{◌≡◌, ◌∙◌, true, List, [], ◌∷◌, ◌++◌, All, drop, length, map, Some, refl, sym, ap, subst}
use Rattle.std.specs.Prelude.{ℕ, is_some}
use Rattle.std.proofs.lemmas.List.Elements.{All-nil, All-cons, All-head, All-tail}
use Rattle.spec_pattern.specs.Half.{Writing, Reading}
use Rattle.zq_base.specs.declared.ids.EndId.{EndId}
use Rattle.spec_control.specs.declared.end.EndState.{EndState}
use Rattle.spec_control.specs.Held.{Held}
use Rattle.msg_pipe.specs.Known.{Known, IsThere, IsElse}
use Rattle.desk.specs.declared.given.Given.{Given}
use Rattle.end_table.specs.declared.table.Place.{Place}
use Rattle.desk.specs.Holding.{held_given}
use Rattle.desk.specs.TakingOver.{IsGivenWith, AreGivenWith, AreTwo, AllTwo}
use Rattle.closed_ends.specs.declared.sockets.ClosedSocket.{ClosedSocket}
use Rattle.closed_ends.specs.declared.sockets.ClosedSockets.{ClosedSockets}
use Rattle.closed_ends.specs.Has.{all_ends}
use Rattle.closed_ends.specs.Ending.{LeavesBut, OneEnd, OneGone}
use Rattle.closed_ends.proofs.FormLemmas.{AllAlone, IsSound}
use Rattle.closed_ends.specs.Others.{NoneWrites, NoneReads, IsNoneWritten, IsNoneRead, IsUnsettled, Leaves}
use Rattle.closed_ends.proofs.ListLemmas.{all_front, all_back, behind_front, nil_behind, same_ends}
use Rattle.closed_ends.proofs.ChangeLemmas.{Replaces, apart_from, left_apart, same_held}

-- the one of a list
pub all_one : {X : Type 0} (P : X → Type 0) (before behind : List X) (x : X) → All P (before ++ x ∷ behind) → P x
all_one P [] behind x h = All-head P x behind h
all_one P (y ∷ before) behind x h = all_one P before behind x (All-tail P y (before ++ x ∷ behind) h)

pub all_but : {X : Type 0} (P : X → Type 0) (before behind : List X) (x : X) → All P (before ++ x ∷ behind) → All P (before ++ behind)
all_but P [] behind x h = All-tail P x behind h
all_but P (y ∷ before) behind x h = All-cons P y (before ++ behind) (All-head P y (before ++ x ∷ behind) h) (all_but P before behind x (All-tail P y (before ++ x ∷ behind) h))

pub all_with : {X : Type 0} (P : X → Type 0) (before behind : List X) (x : X) → All P (before ++ behind) → P x → All P (before ++ x ∷ behind)
all_with P [] behind x h p = All-cons P x behind p h
all_with P (y ∷ before) behind x h p = All-cons P y (before ++ x ∷ behind) (All-head P y (before ++ behind) h) (all_with P before behind x (All-tail P y (before ++ behind) h) p)

module _ {S O I N : Type 0} (K : Known S O I N) where
  abbrev two : Given N O I → Given N O I → Type 0
  two x g = AreTwo K.exact (held_given K.out_name K.in_name x) (held_given K.out_name K.in_name g)

  -- an end of other pipes is with its halves still
  carried : (old new : S) (g x : Given N O I) → LeavesBut K old new g → two x g → IsGivenWith K old x → IsGivenWith K new x
  carried old new g x leaves apart is = record {
    read_there = leaves.there (K.in_name x.input) is.read_there;
    met = λ m. ap (λ (r : Reading). r.ended) (leaves.ins x.input is.read_there (λ ex same. apart.read ex same)) ∙ is.met m;
    out_is = is.out_is;
    written_there = λ o e. leaves.there x.written (is.written_there o e);
    unsealed = λ o e s.
        ap (λ (v : Writing). v.sealed) (leaves.outs o (subst (IsThere K old) (sym (is.out_is o e)) (is.written_there o e)) (λ has ex same. apart.written ex (sym (is.out_is o e) ∙ same)))
        ∙ is.unsealed o e s;
  }

  left_on : (old new : S) (g x : Given N O I) → OneGone K old new g → two x g → ((o : O) → x.out ≡ Some o → IsElse K x.written (K.in_name g.input)) → IsGivenWith K old x → IsGivenWith K new x
  left_on old new g x gone apart else is = record {
    read_there = gone.written (K.in_name x.input) (λ ex same. apart.read ex same) is.read_there;
    met = λ m. ap (λ (r : Reading). r.ended) (gone.ins x.input is.read_there (λ ex same. apart.read ex same)) ∙ is.met m;
    out_is = is.out_is;
    written_there = λ o e. gone.written x.written (else o e) (is.written_there o e);
    unsealed = λ o e s.
        ap (λ (v : Writing). v.sealed) (gone.outs o (subst (IsThere K old) (sym (is.out_is o e)) (is.written_there o e)) (λ ex same. else o e ex (sym (is.out_is o e) ∙ same)))
        ∙ is.unsealed o e s;
  }

  all_carried : (old new : S) (g : Given N O I) (xs : List (Given N O I)) → LeavesBut K old new g → All (λ x. two x g) xs → AreGivenWith K old xs → AreGivenWith K new xs
  all_carried old new g [] leaves apart is = All-nil (IsGivenWith K new)
  all_carried old new g (x ∷ xs) leaves apart is =
      All-cons (IsGivenWith K new) x xs (carried old new g x leaves (All-head (λ y. two y g) x xs apart) (All-head (IsGivenWith K old) x xs is))
      (all_carried old new g xs leaves (All-tail (λ y. two y g) x xs apart) (All-tail (IsGivenWith K old) x xs is))

  all_left : (old new : S) (g : Given N O I) (xs : List (Given N O I)) → OneGone K old new g → All (λ x. two x g) xs → All (λ x. (o : O) → x.out ≡ Some o → IsElse K x.written (K.in_name g.input)) xs → AreGivenWith K old xs → AreGivenWith K new xs
  all_left old new g [] gone apart else is = All-nil (IsGivenWith K new)
  all_left old new g (x ∷ xs) gone apart else is =
      All-cons (IsGivenWith K new) x xs
      (left_on old new g x gone (All-head (λ y. two y g) x xs apart) (All-head (λ y. (o : O) → y.out ≡ Some o → IsElse K y.written (K.in_name g.input)) x xs else) (All-head (IsGivenWith K old) x xs is))
      (all_left old new g xs gone (All-tail (λ y. two y g) x xs apart) (All-tail (λ y. (o : O) → y.out ≡ Some o → IsElse K y.written (K.in_name g.input)) x xs else) (All-tail (IsGivenWith K old) x xs is))

  module _ (o : ℕ) (e : EndId) (ss ts : List (ClosedSocket N O I)) (g : Given N O I) (old new : S) (sound : IsSound K old ss) where
    -- the end itself is with its halves
    pub its_halves : (rs : List (Given N O I)) → Replaces o e g rs ss ts → IsGivenWith K old g
    its_halves rs r = all_one (IsGivenWith K old) (r.pre ++ r.front) (r.back ++ r.post) g (subst (AreGivenWith K old) r.was sound.halves)

    others_apart : (rs : List (Given N O I)) (r : Replaces o e g rs ss ts) → All (λ x. two x g) ((r.pre ++ r.front) ++ (r.back ++ r.post))
    others_apart rs r = apart_from K.out_name K.in_name K.exact (r.pre ++ r.front) (r.back ++ r.post) g (subst (λ l. AllTwo K.exact (map (held_given K.out_name K.in_name) l)) r.was sound.apart)

    others_with : (rs : List (Given N O I)) (r : Replaces o e g rs ss ts) → AreGivenWith K old ((r.pre ++ r.front) ++ (r.back ++ r.post))
    others_with rs r = all_but (IsGivenWith K old) (r.pre ++ r.front) (r.back ++ r.post) g (subst (AreGivenWith K old) r.was sound.halves)

    -- one end changed
    pub changed_sound : (k : Given N O I) → Replaces o e g (k ∷ []) ss ts → OneEnd K old new g k → AllAlone ts → IsSound K new ts
    changed_sound k r one alone = record {
      halves = subst (AreGivenWith K new) (sym r.now)
          (all_with (IsGivenWith K new) (r.pre ++ r.front) (r.back ++ r.post) k (all_carried old new g ((r.pre ++ r.front) ++ (r.back ++ r.post)) one.leaves (others_apart (k ∷ []) r) (others_with (k ∷ []) r)) one.halves);
      apart = subst (λ hs. AllTwo K.exact hs)
          (sym (ap (map (held_given K.out_name K.in_name)) r.now ∙ same_held K.out_name K.in_name K.exact (r.pre ++ r.front) (r.back ++ r.post) g k one.held ∙ sym (ap (map (held_given K.out_name K.in_name)) r.was)))
          sound.apart;
      alone = alone;
    }

    -- one is gone, whose pipe none writes
    pub gone_sound : (r : Replaces o e g [] ss ts) → OneGone K old new g → All (λ x. (w : O) → x.out ≡ Some w → IsElse K x.written (K.in_name g.input)) (all_ends ts) → AllAlone ts → IsSound K new ts
    gone_sound r gone else alone = record {
      halves = subst (AreGivenWith K new) (sym r.now)
          (all_left old new g ((r.pre ++ r.front) ++ (r.back ++ r.post)) gone (others_apart [] r) (subst (λ l. All (λ x. (w : O) → x.out ≡ Some w → IsElse K x.written (K.in_name g.input)) l) r.now else) (others_with [] r));
      apart = left_is r;
      alone = alone;
    }
      where
        left_is : Replaces o e g [] ss ts → AllTwo K.exact (map (held_given K.out_name K.in_name) (all_ends ts))
        left_is r = subst (λ l. AllTwo K.exact (map (held_given K.out_name K.in_name) l)) (sym r.now)
            (left_apart K.out_name K.in_name K.exact (r.pre ++ r.front) (r.back ++ r.post) g (subst (λ l. AllTwo K.exact (map (held_given K.out_name K.in_name) l)) r.was sound.apart))

  -- ---- what is left to others

  pub leaves_on : (old mid new : S) (from then to : ClosedSockets N O I) → Leaves K old from mid then → Leaves K mid then new to → Leaves K old from new to
  leaves_on old mid new from then to a b = record {
    written = λ n u t. b.written n u (a.written n (b.settled n u) t);
    read = λ n r t. b.read n (read_then n r) (a.read n (read_first n r) t);
    outs = λ h t w u. b.outs h (a.written (K.out_name h) (b.settled (K.out_name h) u) t) (written_then (K.out_name h) w) u ∙ a.outs h t (written_first (K.out_name h) w) (b.settled (K.out_name h) u);
    ins = λ h t r. b.ins h (a.read (K.in_name h) (read_first (K.in_name h) r) t) (read_then (K.in_name h) r) ∙ a.ins h t (read_first (K.in_name h) r);
    writes = λ n w. b.writes n (written_then n w);
    reads = λ n r. b.reads n (read_then n r);
    came = behind_front from.came.items (drop (length from.came.items) then.came.items ++ drop (length then.came.items) to.came.items) to.came.items (behind (drop (length from.came.items) then.came.items) a.came);
    settled = λ n u. a.settled n (b.settled n u);
  }
    where
      behind : (more : List (Place N I × Unit {0})) → then.came.items ≡ from.came.items ++ more → to.came.items ≡ from.came.items ++ (more ++ drop (length then.came.items) to.came.items)
      behind more e = b.came ∙ ap (λ l. l ++ drop (length then.came.items) to.came.items) e ∙ same_ends from.came.items more (drop (length then.came.items) to.came.items)

      ahead : (more : List (Place N I × Unit {0})) → to.came.items ≡ then.came.items ++ more → to.came.items ≡ from.came.items ++ (drop (length from.came.items) then.came.items ++ more)
      ahead more e = e ∙ ap (λ l. l ++ more) a.came ∙ same_ends from.came.items (drop (length from.came.items) then.came.items) more

      written_first : (n : N) → IsNoneWritten K from to n → IsNoneWritten K from then n
      written_first n w = record { first = w.first; since = λ more e. all_front (λ (x : Place N I × Unit {0}). IsElse K n x.0.written) more (drop (length then.came.items) to.came.items) (w.since (more ++ drop (length then.came.items) to.came.items) (behind more e)) }

      read_first : (n : N) → IsNoneRead K from to n → IsNoneRead K from then n
      read_first n r = record { first = r.first; since = λ more e. all_front (λ (x : Place N I × Unit {0}). IsElse K n x.0.read) more (drop (length then.came.items) to.came.items) (r.since (more ++ drop (length then.came.items) to.came.items) (behind more e)) }

      written_then : (n : N) → IsNoneWritten K from to n → IsNoneWritten K then to n
      written_then n w = record { first = a.writes n (written_first n w); since = λ more e. all_back (λ (x : Place N I × Unit {0}). IsElse K n x.0.written) (drop (length from.came.items) then.came.items) more (w.since (drop (length from.came.items) then.came.items ++ more) (ahead more e)) }

      read_then : (n : N) → IsNoneRead K from to n → IsNoneRead K then to n
      read_then n r = record { first = a.reads n (read_first n r); since = λ more e. all_back (λ (x : Place N I × Unit {0}). IsElse K n x.0.read) (drop (length from.came.items) then.came.items) more (r.since (drop (length from.came.items) then.came.items ++ more) (ahead more e)) }

  -- nothing was done
  pub leaves_none : (pipes : S) (c : ClosedSockets N O I) (d : ClosedSockets N O I) → d.sockets.items ≡ c.sockets.items → d.came.items ≡ c.came.items → d.settled.items ≡ c.settled.items → Leaves K pipes c pipes d
  leaves_none pipes c d same came settled = record {
    written = λ n u t. t;
    read = λ n r t. t;
    outs = λ h t w u. refl;
    ins = λ h t r. refl;
    writes = λ n w. subst (λ l. All (λ g. is_some g.out ≡ true → IsElse K n g.written) (all_ends l)) (sym same) w.first;
    reads = λ n r. subst (λ l. All (λ g. IsElse K n (K.in_name g.input)) (all_ends l)) (sym same) r.first;
    came = behind_front c.came.items [] d.came.items (came ∙ sym (nil_behind c.came.items));
    settled = λ n u. subst (λ l. All (λ x. IsElse K n x.0) l) settled u;
  }

  module _ (o : ℕ) (e : EndId) (c d : ClosedSockets N O I) (g : Given N O I) (old new : S) (came : d.came.items ≡ c.came.items) where
    came_none : d.came.items ≡ c.came.items ++ drop (length c.came.items) d.came.items
    came_none = behind_front c.came.items [] d.came.items (came ∙ sym (nil_behind c.came.items))

    its_written : (rs : List (Given N O I)) → Replaces o e g rs c.sockets.items d.sockets.items → (n : N) → NoneWrites K c n → is_some g.out ≡ true → IsElse K n g.written
    its_written rs r n w = all_one (λ x. is_some x.out ≡ true → IsElse K n x.written) (r.pre ++ r.front) (r.back ++ r.post) g (subst (λ l. All (λ x. is_some x.out ≡ true → IsElse K n x.written) l) r.was w)

    its_read : (rs : List (Given N O I)) → Replaces o e g rs c.sockets.items d.sockets.items → (n : N) → NoneReads K c n → IsElse K n (K.in_name g.input)
    its_read rs r n h = all_one (λ x. IsElse K n (K.in_name x.input)) (r.pre ++ r.front) (r.back ++ r.post) g (subst (λ l. All (λ x. IsElse K n (K.in_name x.input)) l) r.was h)

    -- one end changed
    pub leaves_changed : (k : Given N O I) → Replaces o e g (k ∷ []) c.sockets.items d.sockets.items → OneEnd K old new g k → d.settled.items ≡ c.settled.items → Leaves K old c new d
    leaves_changed k r one settled = record {
      written = λ n u t. one.leaves.there n t;
      read = λ n h t. one.leaves.there n t;
      outs = λ h t w u. one.leaves.outs h t (its_written (k ∷ []) r (K.out_name h) w.first);
      ins = λ h t n. one.leaves.ins h t (its_read (k ∷ []) r (K.in_name h) n.first);
      writes = λ n w. subst (λ l. All (λ x. is_some x.out ≡ true → IsElse K n x.written) l) (sym r.now)
          (all_with (λ x. is_some x.out ≡ true → IsElse K n x.written) (r.pre ++ r.front) (r.back ++ r.post) k
          (all_but (λ x. is_some x.out ≡ true → IsElse K n x.written) (r.pre ++ r.front) (r.back ++ r.post) g (subst (λ l. All (λ x. is_some x.out ≡ true → IsElse K n x.written) l) r.was w.first))
          (λ has ex same. its_written (k ∷ []) r n w.first (one.fewer has) ex (same ∙ ap (λ (x : Held N). x.written) one.held)));
      reads = λ n h. subst (λ l. All (λ x. IsElse K n (K.in_name x.input)) l) (sym r.now)
          (all_with (λ x. IsElse K n (K.in_name x.input)) (r.pre ++ r.front) (r.back ++ r.post) k
          (all_but (λ x. IsElse K n (K.in_name x.input)) (r.pre ++ r.front) (r.back ++ r.post) g (subst (λ l. All (λ x. IsElse K n (K.in_name x.input)) l) r.was h.first))
          (λ ex same. its_read (k ∷ []) r n h.first ex (same ∙ ap (λ (x : Held N). x.read) one.held)));
      came = came_none;
      settled = λ n u. subst (λ l. All (λ x. IsElse K n x.0) l) settled u;
    }

    fewer_written : Replaces o e g [] c.sockets.items d.sockets.items → (n : N) → NoneWrites K c n → NoneWrites K d n
    fewer_written r n w = subst (λ l. All (λ x. is_some x.out ≡ true → IsElse K n x.written) l) (sym r.now)
        (all_but (λ x. is_some x.out ≡ true → IsElse K n x.written) (r.pre ++ r.front) (r.back ++ r.post) g (subst (λ l. All (λ x. is_some x.out ≡ true → IsElse K n x.written) l) r.was w))

    fewer_read : Replaces o e g [] c.sockets.items d.sockets.items → (n : N) → NoneReads K c n → NoneReads K d n
    fewer_read r n h = subst (λ l. All (λ x. IsElse K n (K.in_name x.input)) l) (sym r.now)
        (all_but (λ x. IsElse K n (K.in_name x.input)) (r.pre ++ r.front) (r.back ++ r.post) g (subst (λ l. All (λ x. IsElse K n (K.in_name x.input)) l) r.was h))

    -- or its pipe was settled
    pub leaves_gone : Replaces o e g [] c.sockets.items d.sockets.items → OneGone K old new g → d.settled.items ≡ c.settled.items ++ (K.in_name g.input, tt) ∷ [] → Leaves K old c new d
    leaves_gone r gone settled = record {
      written = λ n u t. gone.written n (last n u) t;
      read = λ n h t. gone.written n (its_read [] r n h.first) t;
      outs = λ h t w u. gone.outs h t (last (K.out_name h) u);
      ins = λ h t n. gone.ins h t (its_read [] r (K.in_name h) n.first);
      writes = λ n w. fewer_written r n w.first;
      reads = λ n h. fewer_read r n h.first;
      came = came_none;
      settled = λ n u. all_front (λ (x : N × Unit {0}). IsElse K n x.0) c.settled.items ((K.in_name g.input, tt) ∷ []) (subst (λ l. All (λ (x : N × Unit {0}). IsElse K n x.0) l) settled u);
    }
      where
        last : (n : N) → IsUnsettled K d n → IsElse K n (K.in_name g.input)
        last n u = all_one (λ (x : N × Unit {0}). IsElse K n x.0) c.settled.items [] (K.in_name g.input, tt) (subst (λ l. All (λ (x : N × Unit {0}). IsElse K n x.0) l) settled u)

-- those that are left
pub all_fewer : {N O I : Type 0} (o : ℕ) (e : EndId) (ss ts : List (ClosedSocket N O I)) (g : Given N O I) (P : Given N O I → Type 0) → Replaces o e g [] ss ts → All P (all_ends ss) → All P (all_ends ts)
all_fewer o e ss ts g P r all = subst (λ (l : List (Given _ _ _)). All P l) (sym r.now) (all_but P (r.pre ++ r.front) (r.back ++ r.post) g (subst (λ (l : List (Given _ _ _)). All P l) r.was all))

module _ {S O I N : Type 0} (K : Known S O I N) where
  -- an end that only goes to another state
  pub one_turned : (pipes : S) (g k : Given N O I) (state : EndState) → k ≡ record g { state = state } → IsGivenWith K pipes g → OneEnd K pipes pipes g k
  one_turned pipes g k state is given = subst (OneEnd K pipes pipes g) (sym is) (record {
    leaves = record { there = λ n t. t; outs = λ h t w. refl; ins = λ h t w. refl };
    halves = record { read_there = given.read_there; met = given.met; out_is = given.out_is; written_there = given.written_there; unsealed = given.unsealed };
    held = refl;
    fewer = λ h. h;
  })

  -- no socket
  pub none_sound : (pipes : S) → IsSound K pipes []
  none_sound pipes = record { halves = All-nil (IsGivenWith K pipes); apart = tt; alone = tt }
