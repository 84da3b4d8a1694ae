use Rattle.wt_line.proofs.PlainWords.{create_plain, create_configured, dump_hex, dump_plain, dump_reverse, list_alone, load_alone, load_both, load_kept, load_renamed, overwrite_items, read_items, script_alone, verify_alone, verify_plain, write_items}
use Rattle.wt_line.proofs.law.plain_words_are_items.Goals as goal

pub returns-clause-create : goal.returns-clause-create
returns-clause-create c = create_plain

pub returns-clause-configured : goal.returns-clause-configured
returns-clause-configured c = create_configured

pub returns-clause-write : goal.returns-clause-write
returns-clause-write c = write_items

pub returns-clause-overwrite : goal.returns-clause-overwrite
returns-clause-overwrite c = overwrite_items

pub returns-clause-read : goal.returns-clause-read
returns-clause-read c = read_items

pub returns-clause-list : goal.returns-clause-list
returns-clause-list c = list_alone

pub returns-clause-verify : goal.returns-clause-verify
returns-clause-verify c = verify_alone

pub returns-clause-one : goal.returns-clause-one
returns-clause-one c = verify_plain

pub returns-clause-script : goal.returns-clause-script
returns-clause-script c = script_alone

pub returns-clause-dump : goal.returns-clause-dump
returns-clause-dump c = dump_plain

pub returns-clause-hex : goal.returns-clause-hex
returns-clause-hex c = dump_hex

pub returns-clause-reverse : goal.returns-clause-reverse
returns-clause-reverse c = dump_reverse

pub returns-clause-load : goal.returns-clause-load
returns-clause-load c = load_alone

pub returns-clause-kept : goal.returns-clause-kept
returns-clause-kept c = load_kept

pub returns-clause-renamed : goal.returns-clause-renamed
returns-clause-renamed c = load_renamed

pub returns-clause-both : goal.returns-clause-both
returns-clause-both c = load_both
