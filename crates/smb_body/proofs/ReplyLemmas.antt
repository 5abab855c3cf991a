-- Replies of all commands.
use Rattle.std.proofs.Common.{◌≡◌, ℕ, ◌+◌, List, [], ◌++◌, length, sym, ap, arith, ◌∙◌, append-nil, length-append}
use Rattle.std.proofs.Common.{rules, refl, ◌-◌, drop, Some}
use Rattle.std.proofs.lemmas.List.{drop_at}
use Rattle.smb_wire.specs.Fields.{Field, number_in, AllFit, AllStand, InOrder, joined, width_of}
use Rattle.smb_wire.proofs.FieldTables.{length-joined, stand_behind}
use Rattle.smb_body.specs.Replies.{ReplyValue, answers_error, answers_negotiate, answers_session_setup, answers_logoff, answers_tree_connect, answers_tree_disconnect, answers_create, answers_close, answers_flush, answers_read, answers_write, answers_lock, answers_echo, answers_query_directory, answers_query_info, answers_set_info, reply_fields, reply_buffer, reply_spelling, reply_length, HasBufferAtItsOffset}

-- a table that was put, and no buffer
pub joined_alone : (old out : List ℕ) (fields : List Field) → out ≡ old ++ joined fields → out ≡ old ++ (joined fields ++ [])
joined_alone old out fields e = e ∙ ap (λ (xs : List ℕ). old ++ xs) (sym (append-nil (joined fields)))

pub reply_size : (v : ReplyValue) (old out : List ℕ) → AllFit (reply_fields v) → out ≡ old ++ reply_spelling v → length out ≡ length old + reply_length v
reply_size v old out f e =
    let whole = ap length e in
    omega (arith, whole, length-append old (reply_spelling v), length-append (joined (reply_fields v)) (reply_buffer v), length-joined (reply_fields v) f)

reply_in_order : (v : ReplyValue) → InOrder 0 (reply_fields v)
reply_in_order answers_error = search rules
reply_in_order (answers_negotiate a) = search rules
reply_in_order (answers_session_setup a) = search rules
reply_in_order answers_logoff = search rules
reply_in_order (answers_tree_connect a) = search rules
reply_in_order answers_tree_disconnect = search rules
reply_in_order (answers_create a) = search rules
reply_in_order (answers_close a) = search rules
reply_in_order answers_flush = search rules
reply_in_order (answers_read a) = search rules
reply_in_order (answers_write a) = search rules
reply_in_order answers_lock = search rules
reply_in_order answers_echo = search rules
reply_in_order (answers_query_directory a) = search rules
reply_in_order (answers_query_info a) = search rules
reply_in_order answers_set_info = search rules

-- a reply's fields stand where its table says
pub reply_stands : (v : ReplyValue) → AllFit (reply_fields v) → AllStand (reply_spelling v) (reply_fields v)
reply_stands v f = stand_behind [] (reply_fields v) (reply_buffer v) 0 refl (reply_in_order v) f

-- a buffer stands behind its table, where the offset says
behind_table : (fields : List Field) (buffer : List ℕ) (place : ℕ) → AllFit fields → place ≡ 64 + width_of fields → drop (place - 64) (joined fields ++ buffer) ≡ buffer
behind_table fields buffer place f e =
    drop_at (joined fields) buffer (place - 64) (let wide = length-joined fields f in omega (arith, wide, e))

-- and the offset's field is read as the number that was written
same_field : (v : ReplyValue) (one field : ℕ × ℕ) (place : ℕ) → Some one ≡ Some field → number_in one.0 one.1 (reply_spelling v) ≡ place → AllFit (reply_fields v) → place ≡ 64 + width_of (reply_fields v) →
    drop (number_in field.0 field.1 (reply_spelling v) - 64) (reply_spelling v) ≡ reply_buffer v
same_field v one field place e n f w =
    let same : one ≡ field = cc in
    let read : number_in field.0 field.1 (reply_spelling v) ≡ place = ap (λ (x : ℕ × ℕ). number_in x.0 x.1 (reply_spelling v)) (sym same) ∙ n in
    rw read (behind_table (reply_fields v) (reply_buffer v) place f w)

-- a reply's buffer stands where its field says
pub reply_buffer_stands : (v : ReplyValue) → AllFit (reply_fields v) → HasBufferAtItsOffset v
reply_buffer_stands answers_error f field e = cc
reply_buffer_stands (answers_negotiate a) f field e = same_field (answers_negotiate a) (2, 56) field 128 e (reply_stands (answers_negotiate a) f).1.1.1.1.1.1.1.1.1.1.1.0.1 f refl
reply_buffer_stands (answers_session_setup a) f field e = same_field (answers_session_setup a) (2, 4) field 72 e (reply_stands (answers_session_setup a) f).1.1.0.1 f refl
reply_buffer_stands answers_logoff f field e = cc
reply_buffer_stands (answers_tree_connect a) f field e = cc
reply_buffer_stands answers_tree_disconnect f field e = cc
reply_buffer_stands (answers_create a) f field e = cc
reply_buffer_stands (answers_close a) f field e = cc
reply_buffer_stands answers_flush f field e = cc
reply_buffer_stands (answers_read a) f field e = same_field (answers_read a) (1, 2) field 80 e (reply_stands (answers_read a) f).1.0.1 f refl
reply_buffer_stands (answers_write a) f field e = cc
reply_buffer_stands answers_lock f field e = cc
reply_buffer_stands answers_echo f field e = cc
reply_buffer_stands (answers_query_directory a) f field e = same_field (answers_query_directory a) (2, 2) field 72 e (reply_stands (answers_query_directory a) f).1.0.1 f refl
reply_buffer_stands (answers_query_info a) f field e = same_field (answers_query_info a) (2, 2) field 72 e (reply_stands (answers_query_info a) f).1.0.1 f refl
reply_buffer_stands answers_set_info f field e = cc
