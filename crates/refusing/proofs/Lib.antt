mod RequestCalls
mod Handle
