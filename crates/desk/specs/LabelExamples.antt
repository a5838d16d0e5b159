-- Worked label lists, as one claim on the definitions. Assumes nothing.
use Rattle.std.specs.Prelude.{ℕ, ◌≡◌, refl, List, [], ◌∷◌, ◌++◌, replicate}
use Rattle.strlib.specs.Quoted.{bytes}
use Rattle.strlib.specs.Pointer.{pointer, text_of, all}
use Rattle.strlib.specs.Refusal.{after}
use Rattle.strlib.specs.Store.{put}
use Rattle.cutting.specs.Cutting.{is_blank, trimmed_length}
use Rattle.records.specs.Told.{refused_at, tells, told, ruled_at}
use Rattle.records.specs.Walk.{last_of, lead_of}
use Rattle.records.specs.Record.{width_of, record_size, limit_of, is_kind, is_number_of, is_name, kind_of, number_in, name_in, place_of, record_at, records, is_record, record_of}
use Rattle.records.specs.Record.{is_fresh, body_refusal, behind_refusal, record_refusal, earlier, fault_in, list_refusal, sound_in, fault_offset}
use Rattle.records.specs.Record.{key_refusal, new_refusal, padded, label_bytes}
use Rattle.desk.specs.Label.{read_labels_rule, name_of, find_label_rule, name_part, add_refusal, add_offset, add_rule}

-- microphone 7 and loudspeaker 31
abbrev pub cello : List ℕ
cello = (1 ∷ 0 ∷ 7 ∷ []) ++ bytes "CELLO           "

abbrev pub stalls : List ℕ
stalls = (2 ∷ 0 ∷ 31 ∷ []) ++ bytes "STALLS LEFT     "

-- a buffer of one record and two bytes more than a second one
abbrev pub buffer : List ℕ
buffer = cello ++ replicate 21 0

pub record Examples : Type 0 where
  -- a short body and a repeated kind and number, with the offset of the record's kind byte
  pub short : read_labels_rule (cello ++ stalls ++ (1 ∷ 255 ∷ [])) ≡ refused_at 13 38
  pub repeated : read_labels_rule (cello ++ cello) ≡ refused_at 14 19
  -- a kind that is none, asked for in a good list: with the list's length
  pub no_kind : find_label_rule cello 257 7 ≡ refused_at 11 19
  -- the writer
  pub added : add_rule buffer 19 2 31 (bytes "STALLS LEFT") ≡ (tells 38, cello ++ stalls ++ replicate 2 0)
  -- not with the offset of the record that is there
  pub add_repeated : add_rule buffer 19 1 7 (bytes "VIOLA") ≡ (refused_at 14 19, buffer)
  -- a length over the buffer's comes back itself
  pub add_length : add_rule cello 20 1 8 (bytes "VIOLA") ≡ (refused_at 4 20, cello)

pub examples : Examples
unfolding
    last_of lead_of width_of record_size limit_of is_kind is_number_of is_name kind_of number_in name_in place_of record_at records is_record record_of is_fresh body_refusal
    behind_refusal record_refusal earlier fault_in list_refusal sound_in fault_offset key_refusal new_refusal padded label_bytes read_labels_rule name_of find_label_rule name_part
    add_refusal add_offset add_rule pointer text_of all told after ruled_at put is_blank trimmed_length
examples =
    record {
      short = refl;
      repeated = refl;
      no_kind = refl;
      added = refl;
      add_repeated = refl;
      add_length = refl;
    }
