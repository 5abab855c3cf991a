-- A CREATE of a plain name that is absent succeeds.
use Rattle.std.proofs.Common.{◌≡◌, ◌<◌, ◌⊎◌, inl, inr, ℕ, ◌-◌, ◌==◌, nat_le, nat_lt, List, [], ◌∷◌, length, bit_and, Bool, true, false, not, ◌&&◌, ◌||◌, Option, None, Some, refl, sym, ap, subst, arith, ◌∙◌}
use Rattle.std.proofs.lemmas.Bool.Decides.{nat_tests}
use Rattle.std.specs.List.{AllByRecursion, list_any}
use Rattle.smb_wire.specs.Access.{has_any}
use Rattle.smb_wire.specs.CreateOptions.{FILE_DELETE_ON_CLOSE}
use Rattle.smb_wire.specs.Counters.{is_spent}
use Rattle.smb_wire.specs.Dispositions.{overwrites_by, must_exist_by, must_be_new_by}
use Rattle.smb_wire.specs.declared.nt_status.NtStatus.TheVariants.{Success}
use Rattle.smb_tree.specs.Content.{Row, entry_at}
use Rattle.smb_tree.specs.Entries.{Entry, is_folder, is_folder_kind}
use Rattle.smb_access.specs.Asked.{FileAsked}
use Rattle.smb_access.specs.declared.open_row.OpenRow.{OpenRow}
use Rattle.smb_access.specs.Access.{granted}
use Rattle.smb_access.specs.Found.{is_read_only_file}
use Rattle.smb_access.specs.Opens.{has_open}
use Rattle.smb_access.specs.Sharing.{use_asked, is_conflict}
use Rattle.smb_opens.specs.Found.{entry_asked}
use Rattle.smb_refusals.specs.Rows.{first_status}
use Rattle.smb_opens.specs.Create.{create_rows, create_status}
use Rattle.smb_opens.specs.Good.{GoodStore}
use Rattle.smb_opens.specs.State.{StoreState}
use Rattle.smb_name_laws.specs.NewNames.{AsksToMake, NamesPlainly, HasRoom, AFreeFileIsOpened}
use Rattle.smb_name_laws.proofs.NamedPlainly.{reached, pending, faultless, begun}
use Rattle.smb_name_laws.proofs.NoneHold.{none_holds, or_off, and_off, and_off_by, first_off, second_off}

-- the disposition
record Makes (d : ℕ) : Type 0 where
  known : nat_lt 5 d ≡ false
  leaves : overwrites_by d ≡ false
  new : must_exist_by d ≡ false

makes_by : (d : ℕ) → (d ≡ 2) ⊎ (d ≡ 3) → Makes d
makes_by d (inl e) = subst Makes (sym e) (record { known = refl; leaves = refl; new = refl })
makes_by d (inr e) = subst Makes (sym e) (record { known = refl; leaves = refl; new = refl })

kind_off : (a b c : Bool) → (a ≡ false) ⊎ (b ≡ false) → c ≡ false → (a && (b || c)) ≡ false
kind_off a b c (inl e) k = rw e refl
kind_off a b c (inr e) k = and_off_by a (b || c) (or_off b c e k)

access_off : (z r d x : Bool) → z ≡ false → r ≡ true → d ≡ false → (z || not r || d && x) ≡ false
access_off z r d x h k l = rw (h, k, l) refl

-- a good tree has its root
some_rows : (rows : List Row) → is_folder (entry_at rows []) ≡ true → 0 < length rows
some_rows [] h = absurd (let e : false ≡ true = h in cc)
some_rows (x ∷ rows) h = omega arith

none_hold : (state : StoreState) (ask : FileAsked) → GoodStore state → AsksToMake ask → NamesPlainly state ask.name → entry_asked state ask ≡ None → HasRoom state →
    AllByRecursion (λ row. row.0 ≡ false) (create_rows state ask None)
none_hold state ask good asks names absent room =
    let makes = makes_by ask.disposition asks.disposition in
    let some = asks.some in
    let rights = asks.rights in
    let opens = room.opens in
    let open_numbers = room.open_numbers in
    let entries = room.entries in
    let some_entries = some_rows state.tree.rows good.tree.root in
    let entry_numbers = room.entry_numbers in (
      makes.known,
      (
        kind_off _ _ _ asks.kind makes.leaves,
        (
          begun state ask.name good names,
          (
            asks.by_name,
            (
              faultless state ask.name good names,
              (
                access_off (ask.access == 0) (bit_and ask.access 0xF21F01FF == ask.access) (has_any ask.options FILE_DELETE_ON_CLOSE) _ (grind (arith, nat_tests, some)) (grind (arith, nat_tests, rights)) asks.stays,
                (
                  and_off _ _ asks.writer,
                  (
                    ap not (reached state ask.name good names),
                    (
                      pending state ask.name good names None absent refl,
                      (
                        makes.new,
                        (
                          and_off _ _ asks.writer,
                          (
                            refl,
                            (
                              refl,
                              (
                                refl,
                                (
                                  refl,
                                  (
                                    and_off _ _ asks.stays,
                                    (
                                      refl,
                                      (
                                        or_off (nat_le state.tree.limits.opens (length state.opens)) (is_spent 64 state.next) (grind (arith, nat_tests, opens)) (grind (arith, nat_tests, open_numbers)),
                                        (
                                          or_off (nat_le state.tree.limits.entries (length state.tree.rows - 1)) (is_spent 64 state.tree.next) (grind (arith, nat_tests, entries, some_entries)) (grind (arith, nat_tests, entry_numbers)),
                                          tt,
                                        ),
                                      ),
                                    ),
                                  ),
                                ),
                              ),
                            ),
                          ),
                        ),
                      ),
                    ),
                  ),
                ),
              ),
            ),
          ),
        ),
      ),
    )

pub succeeds : (state : StoreState) (ask : FileAsked) → GoodStore state → AsksToMake ask → NamesPlainly state ask.name → entry_asked state ask ≡ None → HasRoom state → create_status state ask ≡ Success
succeeds state ask good asks names absent room =
    ap (λ (o : Option Entry). first_status (create_rows state ask o)) absent ∙ none_holds (create_rows state ask None) (none_hold state ask good asks names absent room)

-- A file that is there.

-- the disposition
record Opens (d : ℕ) : Type 0 where
  known : nat_lt 5 d ≡ false
  leaves : overwrites_by d ≡ false
  old : must_be_new_by d ≡ false

opens_by : (d : ℕ) → (d ≡ 1) ⊎ (d ≡ 3) → Opens d
opens_by d (inl e) = subst Opens (sym e) (record { known = refl; leaves = refl; old = refl })
opens_by d (inr e) = subst Opens (sym e) (record { known = refl; leaves = refl; old = refl })

-- where nobody has an entry open, nothing conflicts
none_against : (rows : List OpenRow) (n : ℕ) (against : OpenRow → Bool) → has_open rows n ≡ false → list_any (λ (row : OpenRow). row.entry == n && against row) rows ≡ false
none_against [] n against h = refl
none_against (x ∷ rows) n against h =
    or_off (x.entry == n && against x) (list_any (λ (row : OpenRow). row.entry == n && against row) rows)
    (and_off (x.entry == n) (against x) (first_off (x.entry == n) (has_open rows n) h))
    (none_against rows n against (second_off (x.entry == n) (has_open rows n) h))

pub opens_free : AFreeFileIsOpened
opens_free state ask file good asks names there free few numbers =
    let does = opens_by ask.disposition asks.disposition in
    let some = asks.some in
    let rights = asks.rights in
    ap (λ (o : Option Entry). first_status (create_rows state ask o)) there
    ∙ none_holds (create_rows state ask (Some file)) (
      does.known,
      (
        and_off _ _ asks.kind,
        (
          begun state ask.name good names,
          (
            asks.by_name,
            (
              faultless state ask.name good names,
              (
                access_off (ask.access == 0) (bit_and ask.access 0xF21F01FF == ask.access) (has_any ask.options FILE_DELETE_ON_CLOSE) _ (grind (arith, nat_tests, some)) (grind (arith, nat_tests, rights)) asks.stays,
                (
                  and_off _ _ asks.writer,
                  (
                    ap not (reached state ask.name good names),
                    (
                      pending state ask.name good names (Some file) there free.unmarked,
                      (
                        refl,
                        (
                          and_off _ _ asks.writer,
                          (
                            does.old,
                            (
                              and_off _ _ free.kind,
                              (
                                and_off_by _ _ asks.kind,
                                (
                                  and_off _ _ (and_off_by (not (is_folder_kind file.kind)) _ free.writable),
                                  (
                                    and_off _ _ asks.stays,
                                    (
                                      none_against state.opens file.number (λ row. is_conflict (use_asked ask (granted ask.access ask.read_only (is_read_only_file (Some file)))) (row.access, row.share)) free.unopened,
                                      (
                                        or_off (nat_le state.tree.limits.opens (length state.opens)) (is_spent 64 state.next) (grind (arith, nat_tests, few)) (grind (arith, nat_tests, numbers)),
                                        (refl, tt),
                                      ),
                                    ),
                                  ),
                                ),
                              ),
                            ),
                          ),
                        ),
                      ),
                    ),
                  ),
                ),
              ),
            ),
          ),
        ),
      ),
    )
