-- Read loosely: each half of the ends goes through the steps by itself.
use Rattle.std.proofs.Common.{◌≡◌, ◌≢◌, ⊎_elim, ℕ, List, [], ◌∷◌, Bool, true, false, Some, refl, sym, ap, ◌∙◌, subst, ◌++◌, append-nil, append_assoc}
use Rattle.std.proofs.lemmas.Bool.{cases_eq}
use Rattle.std.proofs.lemmas.List.Elements.{filter_map-append}
use Rattle.zq_base.specs.Message.{Frames}
use Rattle.zq_base.specs.Ends.{PipeId}
use Rattle.spec_pattern.specs.PipeStep.{PipeStep, Commit, FullLook, RoomLook, Take, EmptyLook, DelimiterLook, WaitingLook, Seal, same_pipe, committed_by, committed_to, read_through}
use Rattle.spec_pattern.specs.Half.{Writing, Reading, Commits, IsFull, HasRoom, with_delimiter}
use Rattle.msg_pipe.specs.Known.{Known}
use Rattle.end_table.specs.declared.row.EndRow.{EndRow}
use Rattle.end_table.specs.Rows.{Table, row_at}
use Rattle.end_table.specs.Held.{IsHeld}
use Rattle.end_table.specs.Runs.{OutDoes, InDoes, OutCall, InCall, DoesAll}
use Rattle.end_table.specs.Own.{IfOwn, WritesOne, ReadsOne, Writes, Reads, GoesThrough}
use Rattle.end_table.proofs.RowLemmas.{some_same}
use Rattle.end_table.proofs.StepLemmas.{own_pipe, other_pipe, other_through}
use Rattle.end_table.proofs.HeldLemmas.{one_holds, row_before, row_else}

-- the test of a step's pipe decides
if_own : {V : Type 0} (does : V → V → Type 0) (b : Bool) (v w : V) → b ≡ true → does v w → IfOwn b does v w
if_own does true v w e h = h
if_own does false v w e h = cc

if_else : {V : Type 0} (does : V → V → Type 0) (b : Bool) (v w : V) → b ≡ false → w ≡ v → IfOwn b does v w
if_else does true v w e h = cc
if_else does false v w e h = h

at_pipe : (p q : PipeId) → q ≡ p → same_pipe p q ≡ true
at_pipe p q e = ap (same_pipe p) e ∙ own_pipe p

else_pipe : (p q r : PipeId) → p ≢ q → r ≡ q → same_pipe p r ≡ false
else_pipe p q r ne e = ap (same_pipe p) e ∙ other_pipe p q ne

out_own : (p : PipeId) (s : PipeStep) (v w : Writing) → OutDoes p s v w → WritesOne p s v w
out_own p (Commit q m) v w d = if_own _ (same_pipe p q) v w (at_pipe p q d.0) d.1
out_own p (FullLook q) v w d = if_own _ (same_pipe p q) v w (at_pipe p q d.0) d.1
out_own p (RoomLook q) v w d = if_own _ (same_pipe p q) v w (at_pipe p q d.0) d.1
out_own p (Seal q) v w d = if_own _ (same_pipe p q) v w (at_pipe p q d.0) d.1
out_own p (Take q m) v w d = elim d [ ]
out_own p (EmptyLook q) v w d = elim d [ ]
out_own p (DelimiterLook q) v w d = elim d [ ]
out_own p (WaitingLook q) v w d = elim d [ ]

out_other : (p q : PipeId) (s : PipeStep) (x y v w : Writing) → OutDoes q s x y → p ≢ q → w ≡ v → WritesOne p s v w
out_other p q (Commit r m) x y v w d ne h = if_else _ (same_pipe p r) v w (else_pipe p q r ne d.0) h
out_other p q (FullLook r) x y v w d ne h = if_else _ (same_pipe p r) v w (else_pipe p q r ne d.0) h
out_other p q (RoomLook r) x y v w d ne h = if_else _ (same_pipe p r) v w (else_pipe p q r ne d.0) h
out_other p q (Seal r) x y v w d ne h = if_else _ (same_pipe p r) v w (else_pipe p q r ne d.0) h
out_other p q (Take r m) x y v w d ne h = h
out_other p q (EmptyLook r) x y v w d ne h = h
out_other p q (DelimiterLook r) x y v w d ne h = h
out_other p q (WaitingLook r) x y v w d ne h = h

out_reads : (p q : PipeId) (s : PipeStep) (x y : Writing) (v w : Reading) → OutDoes q s x y → w ≡ v → ReadsOne p s v w
out_reads p q (Commit r m) x y v w d h = h
out_reads p q (FullLook r) x y v w d h = h
out_reads p q (RoomLook r) x y v w d h = h
out_reads p q (Seal r) x y v w d h = h
out_reads p q (Take r m) x y v w d h = elim d [ ]
out_reads p q (EmptyLook r) x y v w d h = elim d [ ]
out_reads p q (DelimiterLook r) x y v w d h = elim d [ ]
out_reads p q (WaitingLook r) x y v w d h = elim d [ ]

in_own : (p : PipeId) (s : PipeStep) (v w : Reading) → InDoes p s v w → ReadsOne p s v w
in_own p (Take q m) v w d = if_own _ (same_pipe p q) v w (at_pipe p q d.0) d.1
in_own p (EmptyLook q) v w d = if_own _ (same_pipe p q) v w (at_pipe p q d.0) d.1
in_own p (DelimiterLook q) v w d = if_own _ (same_pipe p q) v w (at_pipe p q d.0) d.1
in_own p (WaitingLook q) v w d = if_own _ (same_pipe p q) v w (at_pipe p q d.0) d.1
in_own p (Commit q m) v w d = elim d [ ]
in_own p (FullLook q) v w d = elim d [ ]
in_own p (RoomLook q) v w d = elim d [ ]
in_own p (Seal q) v w d = elim d [ ]

in_other : (p q : PipeId) (s : PipeStep) (x y v w : Reading) → InDoes q s x y → p ≢ q → w ≡ v → ReadsOne p s v w
in_other p q (Take r m) x y v w d ne h = if_else _ (same_pipe p r) v w (else_pipe p q r ne d.0) h
in_other p q (EmptyLook r) x y v w d ne h = if_else _ (same_pipe p r) v w (else_pipe p q r ne d.0) h
in_other p q (DelimiterLook r) x y v w d ne h = if_else _ (same_pipe p r) v w (else_pipe p q r ne d.0) h
in_other p q (WaitingLook r) x y v w d ne h = if_else _ (same_pipe p r) v w (else_pipe p q r ne d.0) h
in_other p q (Commit r m) x y v w d ne h = h
in_other p q (FullLook r) x y v w d ne h = h
in_other p q (RoomLook r) x y v w d ne h = h
in_other p q (Seal r) x y v w d ne h = h

in_writes : (p q : PipeId) (s : PipeStep) (x y : Reading) (v w : Writing) → InDoes q s x y → w ≡ v → WritesOne p s v w
in_writes p q (Take r m) x y v w d h = h
in_writes p q (EmptyLook r) x y v w d h = h
in_writes p q (DelimiterLook r) x y v w d h = h
in_writes p q (WaitingLook r) x y v w d h = h
in_writes p q (Commit r m) x y v w d h = elim d [ ]
in_writes p q (FullLook r) x y v w d h = elim d [ ]
in_writes p q (RoomLook r) x y v w d h = elim d [ ]
in_writes p q (Seal r) x y v w d h = elim d [ ]

-- what a half committed grew by what the steps commit to its pipe, and what it took by what they take
commit_adds : (p q : PipeId) (m : Frames) (v w : Writing) (b : Bool) → same_pipe p q ≡ b → IfOwn b (λ x y. Commits x m y) v w → w.committed ≡ v.committed ++ committed_to p (Commit q m ∷ [])
commit_adds p q m v w true e h = rw e h.committed
commit_adds p q m v w false e h = rw e (ap (λ (x : Writing). x.committed) h ∙ sym (append-nil v.committed))

look_adds : (does : Writing → Writing → Type 0) → ((x y : Writing) → does x y → y.committed ≡ x.committed) → (v w : Writing) (b : Bool) → IfOwn b does v w → w.committed ≡ v.committed ++ []
look_adds does same v w true h = same v w h ∙ sym (append-nil v.committed)
look_adds does same v w false h = ap (λ (x : Writing). x.committed) h ∙ sym (append-nil v.committed)

pub write_grows : (p : PipeId) (s : PipeStep) (v w : Writing) → WritesOne p s v w → w.committed ≡ v.committed ++ committed_to p (s ∷ [])
write_grows p (Commit q m) v w h = commit_adds p q m v w (same_pipe p q) refl h
write_grows p (FullLook q) v w h = look_adds IsFull (λ x y f. f.committed) v w (same_pipe p q) h
write_grows p (RoomLook q) v w h = look_adds HasRoom (λ x y f. f.committed) v w (same_pipe p q) h
write_grows p (Seal q) v w h = look_adds (λ x y. y ≡ with_delimiter x) (λ x y f. ap (λ (z : Writing). z.committed) f) v w (same_pipe p q) h
write_grows p (Take q m) v w h = ap (λ (x : Writing). x.committed) h ∙ sym (append-nil v.committed)
write_grows p (EmptyLook q) v w h = ap (λ (x : Writing). x.committed) h ∙ sym (append-nil v.committed)
write_grows p (DelimiterLook q) v w h = ap (λ (x : Writing). x.committed) h ∙ sym (append-nil v.committed)
write_grows p (WaitingLook q) v w h = ap (λ (x : Writing). x.committed) h ∙ sym (append-nil v.committed)

pub writes_grow : (p : PipeId) (steps : List PipeStep) (v w : Writing) → Writes p steps v w → w.committed ≡ v.committed ++ committed_to p steps
writes_grow p [] v w h = ap (λ (x : Writing). x.committed) h ∙ sym (append-nil v.committed)
writes_grow p (s ∷ ss) v w h =
    writes_grow p ss h.0 w h.2
    ∙ ap (λ (l : List Frames). l ++ committed_to p ss) (write_grows p s v h.0 h.1)
    ∙ append_assoc v.committed (committed_to p (s ∷ [])) (committed_to p ss)
    ∙ ap (λ (l : List Frames). v.committed ++ l) (sym (filter_map-append (committed_by p) (s ∷ []) ss))

module _ {S O I N : Type 0} (K : Known S O I N) where
  -- what one step is to the end at a place
  record OneThrough (old : Table S O I) (s : PipeStep) (new : Table S O I) (place : ℕ) (row : EndRow O I) : Type 0 where
    back : EndRow O I
    here : row_at new.rows place ≡ Some back
    end_is : back.end ≡ row.end
    writes : WritesOne row.end s (K.writing old.pipes row.out) (K.writing new.pipes back.out)
    reads : ReadsOne (read_through row.end) s (K.reading old.pipes row.input) (K.reading new.pipes back.input)

  put_through : (old : Table S O I) (s : PipeStep) (new : Table S O I) → OutCall K old s new → IsHeld K old → (k : ℕ) (row : EndRow O I) → row_at old.rows k ≡ Some row → OneThrough old s new k row
  put_through old s new c held k row is = ⊎_elim
      (λ (e : k ≡ c.place).
      let same : c.row ≡ row = some_same c.row row (sym c.at.here ∙ ap (λ (j : ℕ). row_at old.rows j) (sym e) ∙ is) in
      subst (λ (r : EndRow O I). OneThrough old s new k r) same (record {
        back = c.back;
        here = ap (λ (j : ℕ). row_at new.rows j) e ∙ row_before K old new c.place c.row c.back c.at;
        end_is = c.at.end_is;
        writes = out_own c.row.end s _ _ c.does;
        reads = out_reads (read_through c.row.end) c.row.end s _ _ _ _ c.does (ap (K.reading new.pipes) c.input_is ∙ c.keeps.ins c.row.input (held.each c.place c.row c.at.here).input);
      }))
      (λ (ne : k ≢ c.place).
      let two = held.two k c.place row c.row ne is c.at.here in
      let each = held.each k row is in
      record {
        back = row;
        here = row_else K old new c.place c.row c.back c.at k ne ∙ is;
        end_is = refl;
        writes = out_other row.end c.row.end s _ _ _ _ c.does two.ends (c.keeps.outs row.out each.out two.outs);
        reads = out_reads (read_through row.end) c.row.end s _ _ _ _ c.does (c.keeps.ins row.input each.input);
      })
      (cases_eq k c.place)

  take_through : (old : Table S O I) (s : PipeStep) (new : Table S O I) → InCall K old s new → IsHeld K old → (k : ℕ) (row : EndRow O I) → row_at old.rows k ≡ Some row → OneThrough old s new k row
  take_through old s new c held k row is = ⊎_elim
      (λ (e : k ≡ c.place).
      let same : c.row ≡ row = some_same c.row row (sym c.at.here ∙ ap (λ (j : ℕ). row_at old.rows j) (sym e) ∙ is) in
      subst (λ (r : EndRow O I). OneThrough old s new k r) same (record {
        back = c.back;
        here = ap (λ (j : ℕ). row_at new.rows j) e ∙ row_before K old new c.place c.row c.back c.at;
        end_is = c.at.end_is;
        writes = in_writes c.row.end (read_through c.row.end) s _ _ _ _ c.does (ap (K.writing new.pipes) c.out_is ∙ c.keeps.outs c.row.out (held.each c.place c.row c.at.here).out);
        reads = in_own (read_through c.row.end) s _ _ c.does;
      }))
      (λ (ne : k ≢ c.place).
      let two = held.two k c.place row c.row ne is c.at.here in
      let each = held.each k row is in
      record {
        back = row;
        here = row_else K old new c.place c.row c.back c.at k ne ∙ is;
        end_is = refl;
        writes = in_writes row.end (read_through c.row.end) s _ _ _ _ c.does (c.keeps.outs row.out each.out);
        reads = in_other (read_through row.end) (read_through c.row.end) s _ _ _ _ c.does (other_through row.end c.row.end two.ends) (c.keeps.ins row.input each.input two.ins);
      })
      (cases_eq k c.place)

  -- calls one after another: the ends stay held, and each goes through the steps
  pub loosely : (old : Table S O I) (steps : List PipeStep) (new : Table S O I) → DoesAll K old steps new → IsHeld K old → (k : ℕ) (row : EndRow O I) → row_at old.rows k ≡ Some row
      → GoesThrough K old steps new k row
  loosely old [] new all held k row is = record {
    back = row;
    here = ap (λ (t : Table S O I). row_at t.rows k) all ∙ is;
    end_is = refl;
    writes = ap (λ (t : Table S O I). K.writing t.pipes row.out) all;
    reads = ap (λ (t : Table S O I). K.reading t.pipes row.input) all;
  }
  loosely old (s ∷ ss) new all held k row is =
      let mid = all.0 in
      let one : OneThrough old s mid k row = ⊎_elim
      (λ (c : OutCall K old s mid). put_through old s mid c held k row is)
      (λ (c : InCall K old s mid). take_through old s mid c held k row is)
      all.1 in
      let rest = loosely mid ss new all.2 (one_holds K old s mid all.1 held) k one.back one.here in
      record {
        back = rest.back;
        here = rest.here;
        end_is = rest.end_is ∙ one.end_is;
        writes = (K.writing mid.pipes one.back.out, one.writes, subst (λ (p : PipeId). Writes p ss (K.writing mid.pipes one.back.out) (K.writing new.pipes rest.back.out)) one.end_is rest.writes);
        reads = (K.reading mid.pipes one.back.input, one.reads, subst (λ (p : PipeId). Reads (read_through p) ss (K.reading mid.pipes one.back.input) (K.reading new.pipes rest.back.input)) one.end_is rest.reads);
      }
